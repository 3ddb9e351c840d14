-- The bits of a significance group's counts, and the flag that leaves them out.
use Rattle.std.proofs.Common.{◌≡◌, ℕ, zero, suc, ◌+◌, ◌-◌, ◌*◌, ◌/◌, ◌%◌, ◌<◌, ◌≤◌, min, List, [], ◌∷◌, ◌++◌, map, length, sum_by, refl, sym, ap, ◌∙◌, arith, append_assoc, length-append}
use Rattle.std.specs.Prelude.{Bool, true, false, ◌&&◌, if◌then◌else◌}
use Rattle.std.specs.Int.{from_bool}
use Rattle.std.specs.List.{range_with_len, flat_map, list_all}
use Rattle.std.proofs.lemmas.Bool.{eq-eqb, ne_eqb}
use Rattle.std.proofs.lemmas.Grind.{flat_map-append}
use Rattle.std.proofs.lemmas.List.Sums.{sum_by-cons}
use Rattle.std.proofs.lemmas.List.FromFn.{length-map-range_with_len}
use Rattle.xs_lists.specs.Bits.{bits_of, bit_of}
use Rattle.xs_lists.specs.Spelling.{upto}
use Rattle.xs_layout.specs.Geometry.{significance_groups_of}
use Rattle.xs_spelling.specs.Counts.{Line, unary, has_flags, flag_bits}
use Rattle.xs_spelling.specs.Written.{ones_of, count_bits, members_of, line_count_bits}
use Rattle.xs_counts.specs.Known.{residual_bits_of, residual_size, is_skipped}
use Rattle.xs_lists.proofs.Ranges.{range_first}
use Rattle.xs_counts.proofs.Ranges.{members_first}

-- Modes

pub has_them : (mode : ℕ) → mode ≤ 3 → 2 ≤ mode → has_flags mode ≡ true
has_them mode most some = eq-eqb (mode / 2 % 2) 1 (omega (arith, most, some))

pub has_none : (mode : ℕ) → mode < 2 → has_flags mode ≡ false
has_none mode few = ne_eqb (mode / 2 % 2) 1 (λ one. omega (arith, one, few))

-- A flag is set where all are as predicted: the test of those from a place on

pub all_more : (test : ℕ → Bool) (k end : ℕ) (whole : ℕ) → k < end → test k ≡ true → whole ≡ bit_of (list_all test (range_with_len k (end - k))) → whole ≡ bit_of (list_all test (range_with_len (k + 1) (end - (k + 1))))
all_more test k end whole less one before =
    before ∙ ap (λ l. bit_of (list_all test l)) (range_first k end less) ∙ ap (λ b. bit_of (b && list_all test (range_with_len (k + 1) (end - (k + 1))))) one

-- A significance group

in_group : (line : Line) (flag : ℕ → ℕ) (s first n : ℕ) (skipped : Bool) → ((i : ℕ) → first ≤ i → i < first + n → i / 8 ≡ s) → is_skipped line flag s ≡ skipped
    → flat_map (count_bits line flag) (range_with_len first n) ≡ (if skipped then [] else flat_map (residual_bits_of line) (range_with_len first n))
in_group line flag s first zero true inside e = refl
in_group line flag s first zero false inside e = refl
in_group line flag s first (suc n) true inside e =
    ap (λ b. (if b then [] else residual_bits_of line first) ++ flat_map (count_bits line flag) (range_with_len (first + 1) n)) (ap (is_skipped line flag) (inside first (omega arith) (omega arith)) ∙ e)
    ∙ in_group line flag s (first + 1) n true (λ i low high. inside i (omega (arith, low)) (omega (arith, high))) e
in_group line flag s first (suc n) false inside e =
    ap (λ b. (if b then [] else residual_bits_of line first) ++ flat_map (count_bits line flag) (range_with_len (first + 1) n)) (ap (is_skipped line flag) (inside first (omega arith) (omega arith)) ∙ e)
    ∙ ap (λ l. residual_bits_of line first ++ l) (in_group line flag s (first + 1) n false (λ i low high. inside i (omega (arith, low)) (omega (arith, high))) e)

-- the bits of the counts from a significance group on
abbrev pub counts_from : Line → (ℕ → ℕ) → ℕ → List ℕ
counts_from line flag s = flat_map (count_bits line flag) (range_with_len (8 * s) (line.groups - 8 * s))

pub group_first : (line : Line) (flag : ℕ → ℕ) (s : ℕ) (skipped : Bool) → 8 * s < line.groups → is_skipped line flag s ≡ skipped
    → counts_from line flag s ≡ (if skipped then [] else flat_map (residual_bits_of line) (members_of line s)) ++ counts_from line flag (s + 1)
group_first line flag s skipped inside e =
    ap (flat_map (count_bits line flag)) (members_first line.groups s inside)
    ∙ flat_map-append (count_bits line flag) (members_of line s) (range_with_len (8 * (s + 1)) (line.groups - 8 * (s + 1)))
    ∙ ap (λ l. l ++ counts_from line flag (s + 1)) (in_group line flag s (8 * s) (min 8 (line.groups - 8 * s)) skipped (λ i low high. omega (arith, low, high)) e)

length-unary : (n : ℕ) → length (unary n) ≡ n + 1
length-unary zero = refl
length-unary (suc n) = omega (arith, length-unary n)

pub residuals_sized : (line : Line) (xs : List ℕ) → length (flat_map (residual_bits_of line) xs) ≡ sum_by (residual_size line) xs
residuals_sized line [] = refl
residuals_sized line (x ∷ xs) =
    omega (arith, length-append (residual_bits_of line x) (flat_map (residual_bits_of line) xs), length-unary (ones_of (line.prediction x - line.truncation) (line.prediction x) (line.count x)), sum_by-cons (residual_size line) x xs, residuals_sized line xs)

pub one_bit : (test : Bool) → bits_of 1 (bit_of test) ≡ bit_of test ∷ []
unfolding bits_of
one_bit true = refl
one_bit false = refl

-- How many bits stand from a significance group on

pub from_size : (line : Line) (flag : ℕ → ℕ) (s : ℕ) (skipped : Bool) → 8 * s < line.groups → is_skipped line flag s ≡ skipped
    → length (counts_from line flag s) ≡ (if skipped then 0 else sum_by (residual_size line) (members_of line s)) + length (counts_from line flag (s + 1))
from_size line flag s true inside e = let more = ap length (group_first line flag s true inside e) in omega (arith, more)
from_size line flag s false inside e =
    ap length (group_first line flag s false inside e) ∙ length-append (flat_map (residual_bits_of line) (members_of line s)) (counts_from line flag (s + 1))
    ∙ ap (λ n. n + length (counts_from line flag (s + 1))) (residuals_sized line (members_of line s))

pub from_start : (line : Line) (flag : ℕ → ℕ) → length (counts_from line flag 0) ≡ length (line_count_bits false line flag)
from_start line flag = let all : line.groups - 8 * 0 ≡ line.groups = omega arith in ap (λ n. length (flat_map (count_bits line flag) (range_with_len 0 n))) all

-- and the bits themselves
pub from_more : (line : Line) (flag : ℕ → ℕ) (s : ℕ) (skipped : Bool) (out new whole : List ℕ) → 8 * s < line.groups → is_skipped line flag s ≡ skipped
    → whole ≡ out ++ counts_from line flag s → new ≡ out ++ (if skipped then [] else flat_map (residual_bits_of line) (members_of line s))
    → whole ≡ new ++ counts_from line flag (s + 1)
from_more line flag s skipped out new whole inside e before put =
    before ∙ ap (λ l. out ++ l) (group_first line flag s skipped inside e)
    ∙ sym (append_assoc out (if skipped then [] else flat_map (residual_bits_of line) (members_of line s)) (counts_from line flag (s + 1)))
    ∙ ap (λ l. l ++ counts_from line flag (s + 1)) (sym put)

-- Flags

pub flags_sized : (line : Line) (flag : ℕ → ℕ) (some : Bool) → has_flags line.mode ≡ some → length (flag_bits line flag) ≡ (if some then (line.groups + 7) / 8 else 0)
flags_sized line flag some e = ap (λ (b : Bool). length (if b then map flag (upto (significance_groups_of line.groups)) else [])) e ∙ cases some
  where
    up : significance_groups_of line.groups ≡ (line.groups + 7) / 8
    up = let e : line.groups + 8 - 1 ≡ line.groups + 7 = omega arith in ap (λ n. n / 8) e

    cases : (b : Bool) → length (if b then map flag (upto (significance_groups_of line.groups)) else []) ≡ (if b then (line.groups + 7) / 8 else 0)
    cases true = length-map-range_with_len flag 0 (significance_groups_of line.groups) ∙ up
    cases false = refl

pub flags_first : (f : ℕ → ℕ) (k end : ℕ) (out new whole : List ℕ) → k < end → whole ≡ out ++ map f (range_with_len k (end - k)) → new ≡ out ++ f k ∷ []
    → whole ≡ new ++ map f (range_with_len (k + 1) (end - (k + 1)))
flags_first f k end out new whole less before put =
    before ∙ ap (λ l. out ++ map f l) (range_first k end less) ∙ sym (append_assoc out (f k ∷ []) (map f (range_with_len (k + 1) (end - (k + 1)))))
    ∙ ap (λ l. l ++ map f (range_with_len (k + 1) (end - (k + 1)))) (sym put)

pub flag_put : (test : Bool) (bit flag : ℕ) → bit ≡ from_bool test → bit_of test ≡ flag → bits_of 1 bit ≡ flag ∷ []
flag_put true bit flag one same = ap (bits_of 1) one ∙ one_bit true ∙ ap (λ n. n ∷ []) same
flag_put false bit flag one same = ap (bits_of 1) one ∙ one_bit false ∙ ap (λ n. n ∷ []) same
