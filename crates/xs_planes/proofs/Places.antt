-- The numbers of a line at the places where their code groups begin.
use Rattle.std.proofs.Common.{◌≡◌, ℕ, ◌+◌, ◌-◌, ◌*◌, ◌/◌, ◌%◌, ◌^◌, ◌<◌, ◌≤◌, List, [], ◌∷◌, ◌++◌, map, length, drop, get_or, sum_by, refl, sym, ap, subst, ◌∙◌, arith, inl, inr}
use Rattle.std.specs.Prelude.{Bool, true, false, nat_eq, nat_lt, if◌then◌else◌, ℤ, pos, unsigned_abs, slice_index_or}
use Rattle.std.specs.Int.{is_negative}
use Rattle.std.specs.List.{range_with_len}
use Rattle.std.proofs.lemmas.Bool.{cases_lt, lt-ltb, le-ltb}
use Rattle.std.proofs.lemmas.Nat.{pow_pos}
use Rattle.std.proofs.lemmas.List.{get_or-drop}
use Rattle.std.proofs.lemmas.List.FromFn.{length-map-range_with_len, get_or-map-range_with_len}
use Rattle.std.proofs.lemmas.List.Sums.{sum_by_push, sum_by-append}
use Rattle.xs_lists.specs.Packing.{number_of}
use Rattle.xs_lists.specs.Spelling.{upto}
use Rattle.xs_spelling.specs.Sizes.{data_size, group_size, numbered}
use Rattle.xs_spelling.specs.Reading.{bit_at, group_start, signed, value_in}
use Rattle.xs_planes.specs.Numbers.{AreMagnitudes, AreNumbers, group_number}
use Rattle.xs_lists.proofs.Ranges.{range_cut}
use Rattle.xs_lists.proofs.Ranges.{sum_first}

-- Where code groups begin

pub start_more : (apart : Bool) (t : ℕ) (counts : List ℕ) (k : ℕ) → group_start apart (numbered t counts []) (k + 1) ≡ group_start apart (numbered t counts []) k + group_size apart (numbered t counts []) k
start_more apart t counts k =
    let here : 0 + k ≡ k = omega arith in
    ap (sum_by (group_size apart (numbered t counts []))) (range_cut 0 k 1 ∙ ap (λ j. upto k ++ j ∷ []) here) ∙ sum_by_push (group_size apart (numbered t counts [])) (upto k) k

start_rest : (f : ℕ → ℕ) (k n : ℕ) → k ≤ n → sum_by f (upto n) ≡ sum_by f (upto k) + sum_by f (range_with_len k (n - k))
start_rest f k n inside =
    let all : n ≡ k + (n - k) = omega (arith, inside) in
    let here : 0 + k ≡ k = omega arith in
    ap (λ j. sum_by f (upto j)) all ∙ ap (sum_by f) (range_cut 0 k (n - k) ∙ ap (λ j. upto k ++ range_with_len j (n - k)) here) ∙ sum_by-append f (upto k) (range_with_len k (n - k))

pub start_most : (apart : Bool) (t : ℕ) (counts : List ℕ) (k : ℕ) → k < length counts → group_start apart (numbered t counts []) k + group_size apart (numbered t counts []) k ≤ data_size apart (numbered t counts [])
start_most apart t counts k inside =
    let f : ℕ → ℕ = group_size apart (numbered t counts []) in
    omega (arith, start_rest f k (length counts) (omega (arith, inside)), sum_first f k (length counts) inside)

pub size_some : (apart : Bool) (t count : ℕ) → t < count → (if nat_lt t count then (if apart then 0 else 4) + 4 * (count - t) else 0) ≡ (if apart then 0 else 4) + 4 * (count - t)
size_some apart t count more = ap (λ (b : Bool). if b then (if apart then 0 else 4) + 4 * (count - t) else 0) (lt-ltb t count more)

pub size_none : (apart : Bool) (t count : ℕ) → count ≤ t → (if nat_lt t count then (if apart then 0 else 4) + 4 * (count - t) else 0) ≡ 0
size_none apart t count less = ap (λ (b : Bool). if b then (if apart then 0 else 4) + 4 * (count - t) else 0) (le-ltb t count less)

-- The number at a column, by its code group and its place there

number_there : Bool → ℕ → List ℕ → List ℕ → ℕ → ℕ → ℤ
number_there apart t counts all group c =
    let m = number_of (map (λ plane. bit_at all (group_start apart (numbered t counts []) group + (if apart then 0 else 4) + 4 * plane + c)) (upto (slice_index_or counts group 0 - t))) in
    if apart then pos m else signed (nat_eq (bit_at all (group_start apart (numbered t counts []) group + c)) 1) m

in_place : (apart : Bool) (t : ℕ) (counts all : List ℕ) (j k c : ℕ) → j / 4 ≡ k → j % 4 ≡ c → value_in apart (numbered t counts []) all j ≡ number_there apart t counts all k c
unfolding number_there
in_place apart t counts all j k c q r = ap (λ g. number_there apart t counts all g (j % 4)) q ∙ ap (number_there apart t counts all k) r

planes_there : (all : List ℕ) (s o c planes : ℕ) → number_of (map (λ plane. bit_at (drop s all) (o + 4 * plane + c)) (upto planes)) ≡ number_of (map (λ plane. bit_at all (s + o + 4 * plane + c)) (upto planes))
planes_there all s o c planes = ap (λ g. number_of (map g (upto planes))) (λ i plane. same plane i)
  where
    same : (plane : ℕ) → bit_at (drop s all) (o + 4 * plane + c) ≡ bit_at all (s + o + 4 * plane + c)
    same plane = let at : s + (o + 4 * plane + c) ≡ s + o + 4 * plane + c = omega arith in get_or-drop s all (o + 4 * plane + c) 0 ∙ ap (bit_at all) at

none_before : (all : List ℕ) (s c planes : ℕ) → number_of (map (λ plane. bit_at (drop s all) (4 * plane + c)) (upto planes)) ≡ number_of (map (λ plane. bit_at all (s + 0 + 4 * plane + c)) (upto planes))
none_before all s c planes = ap (λ g. number_of (map g (upto planes))) (λ i plane. same plane i)
  where
    same : (plane : ℕ) → bit_at (drop s all) (4 * plane + c) ≡ bit_at all (s + 0 + 4 * plane + c)
    same plane = let at : s + (4 * plane + c) ≡ s + 0 + 4 * plane + c = omega arith in get_or-drop s all (4 * plane + c) 0 ∙ ap (bit_at all) at

group_there : (apart : Bool) (t : ℕ) (counts all : List ℕ) (k c : ℕ)
    → group_number apart (slice_index_or counts k 0 - t) (drop (group_start apart (numbered t counts []) k) all) c ≡ number_there apart t counts all k c
unfolding number_there
group_there true t counts all k c = ap (λ m. pos m) (none_before all (group_start true (numbered t counts []) k) c (slice_index_or counts k 0 - t))
group_there false t counts all k c =
    let s : ℕ = group_start false (numbered t counts []) k in
    ap (λ b. signed (nat_eq b 1) (number_of (map (λ plane. bit_at (drop s all) (4 + 4 * plane + c)) (upto (slice_index_or counts k 0 - t))))) (get_or-drop s all c 0)
    ∙ ap (λ m. signed (nat_eq (bit_at all (s + c)) 1) m) (planes_there all s 4 c (slice_index_or counts k 0 - t))

-- a code group that was read
pub number_in : (apart : Bool) (t : ℕ) (counts all now : List ℕ) (k j c planes : ℕ) → planes ≡ slice_index_or counts k 0 - t → now ≡ drop (group_start apart (numbered t counts []) k) all → j / 4 ≡ k → j % 4 ≡ c
    → group_number apart planes now c ≡ value_in apart (numbered t counts []) all j
number_in apart t counts all now k j c planes same here q r =
    ap (λ n. group_number apart n now c) same ∙ ap (λ l. group_number apart (slice_index_or counts k 0 - t) l c) here ∙ group_there apart t counts all k c ∙ sym (in_place apart t counts all j k c q r)

pub no_number : (negative : Bool) → signed negative 0 ≡ pos 0
no_number true = refl
no_number false = refl

-- one with no plane
pub nothing_in : (apart : Bool) (t : ℕ) (counts all : List ℕ) (j k : ℕ) → slice_index_or counts k 0 ≤ t → j / 4 ≡ k → value_in apart (numbered t counts []) all j ≡ pos 0
unfolding number_there
nothing_in apart t counts all j k less q =
    let none : slice_index_or counts k 0 - t ≡ 0 = omega (arith, less) in
    in_place apart t counts all j k (j % 4) q refl
    ∙ ap (λ n. if apart then pos (number_of (map (λ plane. bit_at all (group_start apart (numbered t counts []) k + (if apart then 0 else 4) + 4 * plane + j % 4)) (upto n)))
    else signed (nat_eq (bit_at all (group_start apart (numbered t counts []) k + j % 4)) 1) (number_of (map (λ plane. bit_at all (group_start apart (numbered t counts []) k + (if apart then 0 else 4) + 4 * plane + j % 4)) (upto n)))) none
    ∙ cases apart
  where
    cases : (b : Bool) → (if b then pos 0 else signed (nat_eq (bit_at all (group_start apart (numbered t counts []) k + j % 4)) 1) 0) ≡ pos 0
    cases true = refl
    cases false = no_number (nat_eq (bit_at all (group_start apart (numbered t counts []) k + j % 4)) 1)

-- all numbers so far have room in their planes
abbrev pub FitTo : (ℕ → ℤ) → ℕ → List ℕ → ℕ → Type 0
FitTo f t counts k = (column : ℕ) → column < 4 * k → unsigned_abs (f column) < 2 ^ (slice_index_or counts (column / 4) 0 - t)

pub fit_more : (f : ℕ → ℤ) (t : ℕ) (counts : List ℕ) (k : ℕ) → FitTo f t counts k → ((j c : ℕ) → j / 4 ≡ k → j % 4 ≡ c → c < 4 → unsigned_abs (f j) < 2 ^ (slice_index_or counts k 0 - t)) → FitTo f t counts (k + 1)
fit_more f t counts k before here column inside = elim (cases_lt column (4 * k)) [
  | inl old ↦ before column old
  | inr new ↦
      let q : column / 4 ≡ k = omega (arith, new, inside) in
      let small : column % 4 < 4 = omega arith in
      subst (λ g. unsigned_abs (f column) < 2 ^ (slice_index_or counts g 0 - t)) (sym q) (here column (column % 4) q refl small)
]

pub nothing_fits : (f : ℕ → ℤ) (j n : ℕ) → f j ≡ pos 0 → unsigned_abs (f j) < 2 ^ n
nothing_fits f j n none = let size = ap unsigned_abs none in omega (arith, size, some n)
  where
    some : (n : ℕ) → 0 < 2 ^ n
    some n = pow_pos n

pub end_numbers : (f : ℕ → ℤ) (t : ℕ) (counts : List ℕ) (into : List ℤ) → t ≤ 15 → into ≡ map f (upto (4 * length counts)) → FitTo f t counts (length counts) → AreNumbers t counts into
end_numbers f t counts into most e fit = record {
  most = most;
  size = size;
  small = λ column inside.
      let there : column < 4 * length counts = omega (arith, size, inside) in
      let value = ap (λ l. get_or l column (pos 0)) e ∙ get_or-map-range_with_len f 0 (4 * length counts) column column (pos 0) there (omega arith) in
      let same = ap unsigned_abs value in
      let small = fit column there in
      rw (same) small;
}
  where
    size : length into ≡ 4 * length counts
    size = ap length e ∙ length-map-range_with_len f 0 (4 * length counts)

pub end_magnitudes : (apart : Bool) (t : ℕ) (counts all : List ℕ) (into : List ℤ) → into ≡ map (value_in apart (numbered t counts []) all) (upto (4 * length counts)) → apart ≡ true → AreMagnitudes into
end_magnitudes apart t counts all into e set column inside =
    let size = ap length e ∙ length-map-range_with_len (value_in apart (numbered t counts []) all) 0 (4 * length counts) in
    let there : column < 4 * length counts = omega (arith, size, inside) in
    ap is_negative (ap (λ l. get_or l column (pos 0)) e ∙ get_or-map-range_with_len (value_in apart (numbered t counts []) all) 0 (4 * length counts) column column (pos 0) there (omega arith))
    ∙ ap (λ (b : Bool). is_negative (value_in b (numbered t counts []) all column)) set ∙ positive _
  where
    positive : (m : ℕ) → is_negative (pos m) ≡ false
    positive m = le-ltb m 0 (omega arith)
