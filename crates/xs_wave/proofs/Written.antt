-- One more row is written.
use Rattle.std.proofs.Common.{◌≡◌, ℕ, ◌+◌, ◌<◌, List, [], ℤ, get_or, arith, ap, sym, subst, ◌∙◌, inl, inr}
use Rattle.std.proofs.lemmas.Bool.{cases_eq}
use Rattle.xs_signal.specs.Lines.{entries_of}
use Rattle.xs_wave.specs.Planes.{plane_of}

-- rows 0 to k - 1 are the plane's, and so is row k once it is written and the others are left
pub row_more : (old new : List (List ℤ)) (p : ℕ → ℕ → ℤ) (k width : ℕ) → ((column : ℕ) → column < width → plane_of new k column ≡ p k column)
    → ((row : ℕ) → row < k → get_or new row [] ≡ get_or old row []) → ((row column : ℕ) → row < k → column < width → plane_of old row column ≡ p row column)
    → (row column : ℕ) → row < k + 1 → column < width → plane_of new row column ≡ p row column
row_more old new p k width here others before row column inside within =
    elim (cases_eq row k) [
      | inl same ↦ subst (λ r. plane_of new r column ≡ p r column) (sym same) (here column within)
      | inr other ↦
          let less : row < k = omega (arith, inside, other) in
          ap (λ r. entries_of r column) (others row less) ∙ before row column less within
    ]
