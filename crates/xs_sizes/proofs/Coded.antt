-- The bits of a line's counts, group by group.
use Rattle.std.proofs.Common.{◌≡◌, ℕ, zero, suc, ◌+◌, ◌-◌, ◌*◌, ◌<◌, ◌≤◌, min, List, length, sum_by, get_or, refl, sym, ap, ◌∙◌, arith, inl, inr}
use Rattle.std.specs.Prelude.{◌≢◌, Bool, true, false, max, nat_eq, nat_le, nat_lt, ◌&&◌, if◌then◌else◌, replicate}
use Rattle.std.specs.List.{flat_map, list_all, range_with_len}
use Rattle.std.proofs.lemmas.Bool.{cases_eq, eqb-true, leb-false, leb-true, ltb-true, ltb-false, eq-eqb, ne_eqb}
use Rattle.std.proofs.lemmas.List.Sums.{sum_by-cons}
use Rattle.xs_lists.specs.Bits.{bit_of}
use Rattle.xs_spelling.specs.Counts.{Line}
use Rattle.xs_spelling.specs.Sizes.{count_size}
use Rattle.xs_spelling.specs.Written.{count_bits, members_of, written_flag}
use Rattle.xs_counts.specs.Known.{residual_size, is_skipped}
use Rattle.xs_counts.proofs.Members.{counts_from, from_size}
use Rattle.xs_lists.proofs.Ranges.{sum_first}
use Rattle.xs_sizes.specs.Lengths.{AreCountSizes, AreMemberBits, length_of, plain_line}

-- whether a count is as predicted
abbrev pub is_same : List ℕ → List ℕ → ℕ → ℕ → Bool
is_same above planes t group = nat_eq (max (get_or planes group 0) t) (max (get_or above group 0) t)

-- a line without flags leaves out none, one with flags the significance groups whose flag is set
pub skipped_plain : (above planes : List ℕ) (t s : ℕ) → is_skipped (plain_line above planes t 0) (written_flag (plain_line above planes t 0)) s ≡ false
skipped_plain above planes t s = refl

flag_one : (test : Bool) → nat_eq (bit_of test) 1 ≡ test
flag_one true = refl
flag_one false = refl

pub skipped_kept : (above planes : List ℕ) (t s : ℕ) (same : Bool) → same ≡ list_all (is_same above planes t) (members_of (plain_line above planes t 0) s)
    → is_skipped (plain_line above planes t 2) (written_flag (plain_line above planes t 2)) s ≡ same
skipped_kept above planes t s same e = flag_one (list_all (is_same above planes t) (members_of (plain_line above planes t 0) s)) ∙ sym e

-- a count has few bits
pub length_few : (above planes t : ℕ) → above ≤ 15 → planes ≤ 15 → t ≤ 15 → length_of above planes t ≤ 30
length_few above planes t a p c = cases (nat_lt (max planes t) (max above t)) (nat_le (max planes t - max above t) (max above t - t)) refl refl
  where
    cases : (fall near : Bool) → nat_lt (max planes t) (max above t) ≡ fall → nat_le (max planes t - max above t) (max above t - t) ≡ near
        → (if fall then 2 * (max above t - max planes t) - 1 else if near then 2 * (max planes t - max above t) else max planes t - max above t + (max above t - t)) + 1 ≤ 30
    cases true near e f = omega arith
    cases false true e f = let low = leb-true (max planes t - max above t) (max above t - t) f in omega arith
    cases false false e f = omega arith

-- one more count of a line
pub size_more : (above planes : List ℕ) (t k end so_far more whole : ℕ) → k < end → more ≡ so_far + length_of (get_or above k 0) (get_or planes k 0) t
    → so_far + sum_by (residual_size (plain_line above planes t 0)) (range_with_len k (end - k)) ≡ whole
    → more + sum_by (residual_size (plain_line above planes t 0)) (range_with_len (k + 1) (end - (k + 1))) ≡ whole
size_more above planes t k end so_far more whole less e before = omega (arith, e, before, sum_first (residual_size (plain_line above planes t 0)) k end less)

-- one more significance group of a line
pub plain_more : (above planes : List ℕ) (t s so_far more size : ℕ) → 8 * s < length planes → more ≡ so_far + size → size ≡ sum_by (residual_size (plain_line above planes t 0)) (members_of (plain_line above planes t 0) s)
    → so_far + length (counts_from (plain_line above planes t 0) (written_flag (plain_line above planes t 0)) s) ≡ count_size (plain_line above planes t 0)
    → more + length (counts_from (plain_line above planes t 0) (written_flag (plain_line above planes t 0)) (s + 1)) ≡ count_size (plain_line above planes t 0)
plain_more above planes t s so_far more size inside e is before =
    omega (arith, e, is, before, from_size (plain_line above planes t 0) (written_flag (plain_line above planes t 0)) s false inside (skipped_plain above planes t s))

pub kept_more : (above planes : List ℕ) (t s so_far more size : ℕ) (same : Bool) → 8 * s < length planes → more ≡ so_far + (if same then 0 else size) → size ≡ sum_by (residual_size (plain_line above planes t 0)) (members_of (plain_line above planes t 0) s)
    → same ≡ list_all (is_same above planes t) (members_of (plain_line above planes t 0) s)
    → so_far + length (counts_from (plain_line above planes t 2) (written_flag (plain_line above planes t 2)) s) ≡ count_size (plain_line above planes t 2)
    → more + length (counts_from (plain_line above planes t 2) (written_flag (plain_line above planes t 2)) (s + 1)) ≡ count_size (plain_line above planes t 2)
kept_more above planes t s so_far more size true inside e is same before =
    omega (arith, e, before, from_size (plain_line above planes t 2) (written_flag (plain_line above planes t 2)) s true inside (skipped_kept above planes t s true same))
kept_more above planes t s so_far more size false inside e is same before =
    omega (arith, e, is, before, from_size (plain_line above planes t 2) (written_flag (plain_line above planes t 2)) s false inside (skipped_kept above planes t s false same))

-- Some code groups of a line

-- a count has one bit where it is as predicted, and more where it is not
one_bit : (above planes t : ℕ) → nat_eq (max planes t) (max above t) ≡ true → length_of above planes t ≡ 1
one_bit above planes t e = cases (nat_lt (max planes t) (max above t)) (nat_le (max planes t - max above t) (max above t - t)) refl refl
  where
    same : max planes t ≡ max above t
    same = eqb-true (max planes t) (max above t) e

    cases : (fall near : Bool) → nat_lt (max planes t) (max above t) ≡ fall → nat_le (max planes t - max above t) (max above t - t) ≡ near
        → (if fall then 2 * (max above t - max planes t) - 1 else if near then 2 * (max planes t - max above t) else max planes t - max above t + (max above t - t)) + 1 ≡ 1
    cases true near e f = absurd (omega (arith, same, ltb-true (max planes t) (max above t) e))
    cases false true e f = omega (arith, same)
    cases false false e f = absurd (omega (arith, same, leb-false (max planes t - max above t) (max above t - t) f))

more_bits : (above planes t : ℕ) → nat_eq (max planes t) (max above t) ≡ false → 2 ≤ length_of above planes t
more_bits above planes t e = elim (cases_eq (max planes t) (max above t)) [
  | inl same ↦ absurd (cc (sym (eq-eqb (max planes t) (max above t) same) ∙ e))
  | inr other ↦ cases other (nat_lt (max planes t) (max above t)) (nat_le (max planes t - max above t) (max above t - t)) refl refl
]
  where
    cases : max planes t ≢ max above t → (fall near : Bool) → nat_lt (max planes t) (max above t) ≡ fall → nat_le (max planes t - max above t) (max above t - t) ≡ near
        → 2 ≤ (if fall then 2 * (max above t - max planes t) - 1 else if near then 2 * (max planes t - max above t) else max planes t - max above t + (max above t - t)) + 1
    cases other true near e f = omega (arith, ltb-true (max planes t) (max above t) e)
    cases other false true e f = omega (arith, other, ltb-false (max planes t) (max above t) e)
    cases other false false e f = omega (arith, other, ltb-false (max planes t) (max above t) e)

-- so some counts have one bit each exactly where all are as predicted
least_size : (above planes : List ℕ) (t first n : ℕ) → n ≤ sum_by (residual_size (plain_line above planes t 0)) (range_with_len first n)
least_size above planes t first zero = omega arith
least_size above planes t first (suc n) = omega (arith, sum_by-cons (residual_size (plain_line above planes t 0)) first (range_with_len (first + 1) n), least_size above planes t (first + 1) n)

one_more : (a b : ℕ) → nat_eq (suc a) (suc b) ≡ nat_eq a b
one_more a b = elim (cases_eq a b) [
  | inl same ↦ eq-eqb (suc a) (suc b) (ap suc same) ∙ sym (eq-eqb a b same)
  | inr other ↦ ne_eqb (suc a) (suc b) (λ same. other (omega (arith, same))) ∙ sym (ne_eqb a b other)
]

pub all_same_size : (above planes : List ℕ) (t first n : ℕ) → nat_eq (sum_by (residual_size (plain_line above planes t 0)) (range_with_len first n)) n ≡ list_all (is_same above planes t) (range_with_len first n)
all_same_size above planes t first zero = refl
all_same_size above planes t first (suc n) = cases (all_same_size above planes t (first + 1) n) (is_same above planes t first) refl
  where
    rest : ℕ
    rest = sum_by (residual_size (plain_line above planes t 0)) (range_with_len (first + 1) n)

    whole : sum_by (residual_size (plain_line above planes t 0)) (range_with_len first (suc n)) ≡ length_of (get_or above first 0) (get_or planes first 0) t + rest
    whole = sum_by-cons (residual_size (plain_line above planes t 0)) first (range_with_len (first + 1) n)

    cases : nat_eq rest n ≡ list_all (is_same above planes t) (range_with_len (first + 1) n) → (same : Bool) → is_same above planes t first ≡ same → nat_eq (sum_by (residual_size (plain_line above planes t 0)) (range_with_len first (suc n))) (suc n) ≡ (is_same above planes t first && list_all (is_same above planes t) (range_with_len (first + 1) n))
    cases left true e =
        let up : sum_by (residual_size (plain_line above planes t 0)) (range_with_len first (suc n)) ≡ suc rest = omega (arith, whole, one_bit (get_or above first 0) (get_or planes first 0) t e) in
        ap (λ k. nat_eq k (suc n)) up ∙ one_more rest n ∙ left ∙ ap (λ b. b && list_all (is_same above planes t) (range_with_len (first + 1) n)) (sym e)
    cases left false e =
        let many = more_bits (get_or above first 0) (get_or planes first 0) t e in
        ne_eqb (sum_by (residual_size (plain_line above planes t 0)) (range_with_len first (suc n))) (suc n) (λ same. absurd (omega (arith, whole, many, same, least_size above planes t (first + 1) n)))
        ∙ ap (λ b. b && list_all (is_same above planes t) (range_with_len (first + 1) n)) (sym e)

-- the bits of those up to this one
pub record AreSoFar (above planes : List ℕ) (first group end : ℕ) (bits : List ℕ) : Type 0 where
  pub size : (t : ℕ) → t ≤ 15 → get_or bits t 0 + sum_by (residual_size (plain_line above planes t 0)) (range_with_len group (end - group)) ≡ sum_by (residual_size (plain_line above planes t 0)) (range_with_len first (end - first))
  pub few : (t : ℕ) → t ≤ 15 → get_or bits t 0 ≤ 30 * (group - first)

pub so_far_more : (above planes : List ℕ) (first group end : ℕ) (bits row new : List ℕ) → first ≤ group → group < end → get_or above group 0 ≤ 15 → get_or planes group 0 ≤ 15
    → ((t : ℕ) → t ≤ 15 → get_or row t 0 ≡ length_of (get_or above group 0) (get_or planes group 0) t) → ((t : ℕ) → t ≤ 15 → get_or new t 0 ≡ get_or bits t 0 + get_or row t 0)
    → AreSoFar above planes first group end bits → AreSoFar above planes first (group + 1) end new
so_far_more above planes first group end bits row new from less low own is added before = record {
  size = λ t le. size_more above planes t group end (get_or bits t 0) (get_or new t 0) (sum_by (residual_size (plain_line above planes t 0)) (range_with_len first (end - first))) less (omega (arith, added t le, is t le)) (before.size t le);
  few = λ t le. omega (arith, added t le, is t le, length_few (get_or above group 0) (get_or planes group 0) t low own le, before.few t le, from);
}

pub so_far_done : (above planes : List ℕ) (first group end : ℕ) (bits : List ℕ) → first ≤ end → end ≤ first + 8 → group ≡ end → AreSoFar above planes first group end bits → AreMemberBits above planes first (end - first) bits
so_far_done above planes first group end bits order few here known = record {
  size = λ t le. (let none : end - group ≡ 0 = omega (arith, here) in
      let left : sum_by (residual_size (plain_line above planes t 0)) (range_with_len group (end - group)) ≡ 0 = ap (λ n. sum_by (residual_size (plain_line above planes t 0)) (range_with_len group n)) none in
      omega (arith, left, known.size t le));
  few = λ t le. omega (arith, known.few t le, here, order, few);
}

-- A line, significance group by significance group

pub record IsSummed (above planes : List ℕ) (s : ℕ) (all kept : List ℕ) : Type 0 where
  pub all_left : (t : ℕ) → t ≤ 15 → get_or all t 0 + length (counts_from (plain_line above planes t 0) (written_flag (plain_line above planes t 0)) s) ≡ count_size (plain_line above planes t 0)
  pub kept_left : (t : ℕ) → t ≤ 15 → get_or kept t 0 + length (counts_from (plain_line above planes t 2) (written_flag (plain_line above planes t 2)) s) ≡ count_size (plain_line above planes t 2)
  pub few : (t : ℕ) → t ≤ 15 → get_or all t 0 ≤ 240 * s
  pub few_kept : (t : ℕ) → t ≤ 15 → get_or kept t 0 ≤ 240 * s

kept_few : (test : Bool) (bits most : ℕ) → bits ≤ most → (if test then 0 else bits) ≤ most
kept_few true bits most few = omega arith
kept_few false bits most few = few

pub summed_more : (above planes : List ℕ) (s count : ℕ) (all kept bits new_all new_kept : List ℕ) → 8 * s < length planes → count ≡ min 8 (length planes - 8 * s)
    → AreMemberBits above planes (8 * s) (min 8 (length planes - 8 * s)) bits → ((t : ℕ) → t ≤ 15 → get_or new_all t 0 ≡ get_or all t 0 + get_or bits t 0)
    → ((t : ℕ) → t ≤ 15 → get_or new_kept t 0 ≡ get_or kept t 0 + (if nat_eq (get_or bits t 0) count then 0 else get_or bits t 0))
    → IsSummed above planes s all kept → IsSummed above planes (s + 1) new_all new_kept
summed_more above planes s count all kept bits new_all new_kept inside members are all_added kept_added before = record {
  all_left = λ t le. plain_more above planes t s (get_or all t 0) (get_or new_all t 0) (get_or bits t 0) inside (all_added t le) (are.size t le) (before.all_left t le);
  kept_left = λ t le. kept_more above planes t s (get_or kept t 0) (get_or new_kept t 0) (get_or bits t 0) (nat_eq (get_or bits t 0) count) inside (kept_added t le) (are.size t le)
      (ap (nat_eq (get_or bits t 0)) members ∙ ap (λ k. nat_eq k (min 8 (length planes - 8 * s))) (are.size t le) ∙ all_same_size above planes t (8 * s) (min 8 (length planes - 8 * s))) (before.kept_left t le);
  few = λ t le. omega (arith, all_added t le, are.few t le, before.few t le);
  few_kept = λ t le. omega (arith, kept_added t le, kept_few (nat_eq (get_or bits t 0) count) (get_or bits t 0) 240 (are.few t le), before.few_kept t le);
}

nothing_left : (line : Line) (s : ℕ) → line.groups ≤ 8 * s → length (counts_from line (written_flag line) s) ≡ 0
nothing_left line s past = let none : line.groups - 8 * s ≡ 0 = omega (arith, past) in ap (λ n. length (flat_map (count_bits line (written_flag line)) (range_with_len (8 * s) n))) none

pub summed_all : (above planes : List ℕ) (s : ℕ) (all kept : List ℕ) → length planes ≤ 8 * s → IsSummed above planes s all kept → AreCountSizes above planes 0 all
summed_all above planes s all kept past known t le = omega (arith, known.all_left t le, nothing_left (plain_line above planes t 0) s past)

pub summed_kept : (above planes : List ℕ) (s : ℕ) (all kept : List ℕ) → length planes ≤ 8 * s → IsSummed above planes s all kept → AreCountSizes above planes 2 kept
summed_kept above planes s all kept past known t le = omega (arith, known.kept_left t le, nothing_left (plain_line above planes t 2) s past)

zeros : (n t : ℕ) → get_or {A = ℕ} (replicate n 0) t 0 ≡ 0
zeros zero t = refl
zeros (suc n) zero = refl
zeros (suc n) (suc t) = zeros n t

pub so_far_start : (above planes : List ℕ) (first end : ℕ) → AreSoFar above planes first first end (replicate 16 0)
so_far_start above planes first end = record { size = λ t le. omega (arith, zeros 16 t); few = λ t le. omega (arith, zeros 16 t) }

whole_line : (line : Line) → length (counts_from line (written_flag line) 0) ≡ count_size line
whole_line line = let none : line.groups - 8 * 0 ≡ line.groups = omega arith in ap (λ n. length (flat_map (count_bits line (written_flag line)) (range_with_len 0 n))) none

pub summed_start : (above planes : List ℕ) → IsSummed above planes 0 (replicate 16 0) (replicate 16 0)
summed_start above planes = record {
  all_left = λ t le. omega (arith, zeros 16 t, whole_line (plain_line above planes t 0));
  kept_left = λ t le. omega (arith, zeros 16 t, whole_line (plain_line above planes t 2));
  few = λ t le. omega (arith, zeros 16 t);
  few_kept = λ t le. omega (arith, zeros 16 t);
}
