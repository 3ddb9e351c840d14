-- A plane after a row of it was lent.
use Rattle.std.proofs.Common.{◌≡◌, ◌≢◌, ◌<◌, ℕ, ℤ, List, [], ◌++◌, length, take, drop, get_or, get_or-set_other, length-set, refl, sym, ap, ◌∙◌, inl, inr}
use Rattle.std.proofs.lemmas.Bool.{cases_eq}
use Rattle.std.proofs.lemmas.Grind.{get_or-set_at}
use Rattle.xs_wave.specs.Rows.{over}
use Rattle.xs_wave.specs.Corners.{SameShape}
use Rattle.xs_wave.proofs.Kept.{row_lent}

-- the rows where these numbers were left behind the reference to row `at`
abbrev pub lent : List (List ℤ) → ℕ → List ℤ → List (List ℤ)
lent rows at new = take at rows ++ over (drop at rows) new

pub lent_here : (rows : List (List ℤ)) (at : ℕ) (new : List ℤ) → at < length rows → length new ≡ length (get_or rows at []) → get_or (lent rows at new) at [] ≡ new
lent_here rows at new inside same = ap (λ r. get_or r at []) (row_lent rows at new inside same) ∙ get_or-set_at rows at at new [] refl inside

pub lent_other : (rows : List (List ℤ)) (at : ℕ) (new : List ℤ) → at < length rows → length new ≡ length (get_or rows at []) → (row : ℕ) → row ≢ at → get_or (lent rows at new) row [] ≡ get_or rows row []
lent_other rows at new inside same row other = ap (λ r. get_or r row []) (row_lent rows at new inside same) ∙ get_or-set_other rows at row new [] other

pub lent_shape : (rows : List (List ℤ)) (at : ℕ) (new : List ℤ) → at < length rows → length new ≡ length (get_or rows at []) → SameShape rows (lent rows at new)
lent_shape rows at new inside same = record {
  many = ap length (row_lent rows at new inside same) ∙ length-set rows at new;
  widths = λ row.
      elim (cases_eq row at) [
        | inl here ↦ ap (λ r. length (get_or (lent rows at new) r [])) here ∙ ap length (lent_here rows at new inside same) ∙ same ∙ ap (λ r. length (get_or rows r [])) (sym here)
        | inr other ↦ ap length (lent_other rows at new inside same row other)
      ];
}
