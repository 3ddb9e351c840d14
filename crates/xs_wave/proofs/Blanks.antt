-- Planes of zeros, one after the other.
use Rattle.std.proofs.Common.{◌≡◌, ℕ, ◌+◌, ◌-◌, ◌<◌, List, [], ◌∷◌, ◌++◌, length, length-append, get_or, replicate, ℤ, pos, ap, sym, subst, ◌∙◌, arith, inl, inr}
use Rattle.std.proofs.Math.ListN.{get_or-append}
use Rattle.std.proofs.lemmas.Bool.{cases_eq, cases_lt}
use Rattle.std.proofs.lemmas.List.{get_or-append_right, get_or_past, get_or-replicate, length-replicate}
use Rattle.xs_signal.specs.Lines.{entries_of}
use Rattle.xs_signal.specs.Wavelet.{Split}
use Rattle.xs_wave.specs.Planes.{plane_of, HasSize}
use Rattle.xs_wave.specs.Bands.{IsBandSize, HasBandSize, AreBandPlanes, band_count, columns_in, rows_in, type_at}

-- the first bands are blank planes
pub record AreBlank (s : Split) (n : ℕ) (planes : List (List (List ℤ))) : Type 0 where
  pub as_many : length planes ≡ n
  pub sizes : (k : ℕ) → k < n → HasBandSize s planes k
  pub zeros : (k row column : ℕ) → plane_of (get_or planes k []) row column ≡ pos 0

abbrev pub blank : ℕ → ℕ → List (List ℤ)
blank width height = replicate height (replicate width (pos 0))

pub blank_size : (width height : ℕ) → HasSize width height (blank width height)
blank_size width height = record {
  wide = λ row inside. ap length (get_or-replicate height row (replicate width (pos 0)) [] (omega (arith, inside, length-replicate height (replicate width (pos 0))))) ∙ length-replicate width (pos 0);
  high = length-replicate height (replicate width (pos 0));
}

none_zero : (row column : ℕ) → plane_of [] row column ≡ pos 0
none_zero row column = ap (λ r. entries_of r column) (get_or_past [] row [] (omega arith)) ∙ get_or_past [] column (pos 0) (omega arith)

row_zero : (width column : ℕ) → entries_of (replicate width (pos 0)) column ≡ pos 0
row_zero width column =
    elim (cases_lt column width) [
      | inl inside ↦ get_or-replicate width column (pos 0) (pos 0) inside
      | inr past ↦ get_or_past (replicate width (pos 0)) column (pos 0) (omega (arith, past, length-replicate width (pos 0)))
    ]

pub blank_zero : (width height row column : ℕ) → plane_of (blank width height) row column ≡ pos 0
blank_zero width height row column =
    elim (cases_lt row height) [
      | inl inside ↦ ap (λ r. entries_of r column) (get_or-replicate height row (replicate width (pos 0)) [] inside) ∙ row_zero width column
      | inr past ↦ ap (λ r. entries_of r column) (get_or_past (blank width height) row [] (omega (arith, past, length-replicate height (replicate width (pos 0))))) ∙ get_or_past [] column (pos 0) (omega arith)
    ]

pub blank_more : (s : Split) (n width height : ℕ) (planes : List (List (List ℤ))) (x : List (List ℤ)) → AreBlank s n planes → IsBandSize s n width height → x ≡ blank width height → AreBlank s (n + 1) (planes ++ x ∷ [])
blank_more s n width height planes x are size same =
    let all = planes ++ x ∷ [] in
    let before : (k : ℕ) → k < n → get_or all k [] ≡ get_or planes k [] = λ k less. get_or-append planes (x ∷ []) [] k (omega (arith, less, are.as_many)) in
    let last : get_or all n [] ≡ x =
    get_or-append_right planes (x ∷ []) n n [] are.as_many (omega arith) ∙ (let none : n - n ≡ 0 = omega arith in ap (λ i. get_or (x ∷ []) i []) none) in
    let many : length all ≡ n + 1 = omega (arith, length-append planes (x ∷ []), are.as_many) in
    record {
      as_many = many;
      sizes = λ k less.
          elim (cases_eq k n) [
            | inl here ↦ subst (HasBandSize s all) (sym here)
                (subst (λ y. HasSize (columns_in s (type_at s n)) (rows_in s (type_at s n)) y) (sym (last ∙ same))
                (subst (λ w. HasSize w (rows_in s (type_at s n)) (blank width height)) size.columns_are (subst (λ h. HasSize width h (blank width height)) size.rows_are (blank_size width height))))
            | inr other ↦ let less : k < n = omega (arith, less, other) in subst (λ y. HasSize (columns_in s (type_at s k)) (rows_in s (type_at s k)) y) (sym (before k less)) (are.sizes k less)
          ];
      zeros = λ k row column.
          elim (cases_lt k n) [
            | inl less ↦ ap (λ y. plane_of y row column) (before k less) ∙ are.zeros k row column
            | inr past ↦ elim (cases_eq k n) [
              | inl here ↦ ap (λ i. plane_of (get_or all i []) row column) here ∙ ap (λ y. plane_of y row column) (last ∙ same) ∙ blank_zero width height row column
              | inr other ↦ ap (λ y. plane_of y row column) (get_or_past all k [] (omega (arith, past, other, many))) ∙ none_zero row column
            ]
          ];
    }

pub blank_done : (s : Split) (planes : List (List (List ℤ))) (n : ℕ) → n ≡ band_count s → AreBlank s n planes → AreBandPlanes s planes
blank_done s planes n all are = record { as_many = are.as_many ∙ all; sizes = λ k less. are.sizes k (omega (arith, less, all)) }
