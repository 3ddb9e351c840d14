-- Contents of slices that were read apart are put together.
use Rattle.std.proofs.Common.{◌≡◌, ℕ, zero, suc, ◌+◌, ◌/◌, ◌<◌, ◌≤◌, List, [], ◌∷◌, ◌++◌, length, get_or, Bool, true, false, refl, sym, ap, subst, arith}
use Rattle.std.specs.Prelude.{nat_eq}
use Rattle.std.specs.Bool.{MatchBool}
use Rattle.xs_params.specs.declared.header.Header.{Header}
use Rattle.xs_params.specs.Geometry.{slice_count}
use Rattle.xs_params.specs.Markers.{eoc}
use Rattle.xs_grammar.specs.Precinct.{Content, precinct_of}
use Rattle.xs_grammar.specs.Slice.{IsSlice, IsSliceUnit}
use Rattle.xs_grammar.specs.Laws.{AgreeOnSlice}
use Rattle.xs_grammar.proofs.Local.{slice_is_local}
use Rattle.xs_reading.specs.Slice.{no_content}

-- one element for each number of a range
pub chosen : {A : Type 0} (P : ℕ → A → Type 0) (d : A) (n first : ℕ) → ((k : ℕ) → k < n → (x : A) × P (first + k) x)
    → (list : List A) × (length list ≡ n) × ((k : ℕ) → k < n → P (first + k) (get_or list k d))
chosen P d zero first each = ([], refl, λ k below. absurd (omega (arith, below)))
chosen {A} P d (suc n) first each =
    let at_first = each 0 (omega arith) in
    let rest = chosen P d n (first + 1) (λ k below. moved k (each (suc k) (omega (arith, below)))) in
    (at_first.0 ∷ rest.0, longer at_first.0 rest.0 n rest.1, λ k below. at at_first.0 at_first.1 rest.0 rest.2 k below)
  where
    moved : (k : ℕ) → (x : A) × P (first + suc k) x → (x : A) × P (first + 1 + k) x
    moved k p = let e : first + suc k ≡ first + 1 + k = omega arith in (p.0, subst (λ i. P i p.0) e p.1)

    longer : (x : A) (xs : List A) (n : ℕ) → length xs ≡ n → length (x ∷ xs) ≡ suc n
    longer x xs n e = omega (arith, e)

    at : (x : A) → P (first + 0) x → (xs : List A) → ((k : ℕ) → k < n → P (first + 1 + k) (get_or xs k d)) → (k : ℕ) → k < suc n → P (first + k) (get_or (x ∷ xs) k d)
    at x p xs rest zero below = p
    at x p xs rest (suc k) below = let e : first + 1 + k ≡ first + suc k = omega arith in subst (λ i. P i (get_or xs k d)) e (rest k (omega (arith, below)))

-- one for each slice of a header, from slice 0 on
pub chosen_each : {A : Type 0} (P : ℕ → A → Type 0) (d : A) (n : ℕ) → ((k : ℕ) → k < n → (x : A) × P k x) → (list : List A) × (length list ≡ n) × ((k : ℕ) → k < n → P k (get_or list k d))
chosen_each {A} P d n each =
    let found = chosen P d n 0 (λ k below. shifted k (each k below)) in
    (found.0, found.1, λ k below. back k (get_or found.0 k d) (found.2 k below))
  where
    shifted : (k : ℕ) → (x : A) × P k x → (x : A) × P (0 + k) x
    shifted k p = let e : k ≡ 0 + k = omega arith in (p.0, subst (λ i. P i p.0) e p.1)

    back : (k : ℕ) (x : A) → P (0 + k) x → P k x
    back k x p = let e : 0 + k ≡ k = omega arith in subst (λ i. P i x) e p

-- Contents

-- the content of the slice that has a precinct
abbrev content_of : Header → List Content → ℕ → Content
content_of h contents precinct = get_or contents (precinct / h.hsl) no_content

-- one content of which each slice has its own part
abbrev pub joined : Header → List Content → Content
joined h contents = record {
  q = λ precinct. (content_of h contents precinct).q precinct;
  r = λ precinct. (content_of h contents precinct).r precinct;
  count = λ band line. (content_of h contents (precinct_of h band line)).count band line;
  value = λ band line. (content_of h contents (precinct_of h band line)).value band line;
}

pub agrees : (h : Header) (contents : List Content) (slice : ℕ) → AgreeOnSlice h (get_or contents slice no_content) (joined h contents) slice
agrees h contents slice = record {
  q = λ precinct at. ap (λ k. (get_or contents k no_content).q precinct) (sym at);
  r = λ precinct at. ap (λ k. (get_or contents k no_content).r precinct) (sym at);
  count = λ band line at. ap (λ k. (get_or contents k no_content).count band line) (sym at);
  value = λ band line at. ap (λ k. (get_or contents k no_content).value band line) (sym at);
}

unit_moved : (h : Header) (content other : Content) (slice : ℕ) (bytes : List ℕ) → ((part : List ℕ) → IsSlice h content slice part → IsSlice h other slice part) → (b : Bool)
    → MatchBool b ((front : List ℕ) × (bytes ≡ front ++ eoc) × IsSlice h content slice front) (IsSlice h content slice bytes)
    → MatchBool b ((front : List ℕ) × (bytes ≡ front ++ eoc) × IsSlice h other slice front) (IsSlice h other slice bytes)
unit_moved h content other slice bytes move true p = (p.0, p.1, move p.0 p.2)
unit_moved h content other slice bytes move false p = move bytes p

-- a slice unit of its own content is one of the joined content
pub unit_of_joined : (h : Header) (contents : List Content) (slice : ℕ) (bytes : List ℕ) → 1 ≤ h.hsl → h.nly ≤ h.nlx → IsSliceUnit h (get_or contents slice no_content) slice bytes → IsSliceUnit h (joined h contents) slice bytes
unit_of_joined h contents slice bytes high deep spelled =
    unit_moved h (get_or contents slice no_content) (joined h contents) slice bytes (λ part. slice_is_local h (get_or contents slice no_content) (joined h contents) slice part high deep (agrees h contents slice))
    (nat_eq (slice + 1) (slice_count h)) spelled
