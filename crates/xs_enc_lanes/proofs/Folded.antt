-- Folded rows are small.
use Rattle.std.proofs.Common.{◌⊎◌, ℕ, ◌<◌, ◌≤◌, ◌^◌, List, length, map, ℤ, pos, sym, subst, arith, inl, inr}
use Rattle.std.specs.Prelude.{unsigned_abs}
use Rattle.std.proofs.lemmas.Bool.{cases_lt}
use Rattle.std.proofs.lemmas.List.{get_or_past}
use Rattle.std.proofs.lemmas.List.FromFn.{length-map-range_with_len, get_or-map-range_with_len}
use Rattle.xs_lists.specs.Spelling.{upto}
use Rattle.xs_signal.specs.Fold.{fold}
use Rattle.xs_signal.specs.Lines.{entries_of}
use Rattle.xs_signal.proofs.Magnitudes.{fold_fits}
use Rattle.xs_rate.specs.Laws.{IsSmallRow}
use Rattle.xs_picture.specs.Analysed.{folded_row}

pub folded_small : (fraction : ℕ) (numbers : List ℤ) → IsSmallRow (entries_of (folded_row fraction numbers))
folded_small fraction numbers column = by (cases_lt column (length numbers))
  where
    f : ℕ → ℤ
    f k = fold fraction (entries_of numbers k)

    by : (column < length numbers) ⊎ (length numbers ≤ column) → unsigned_abs (entries_of (map f (upto (length numbers))) column) < 2 ^ 15
    by (inl within) =
        subst (λ z. unsigned_abs z < 2 ^ 15) (sym (get_or-map-range_with_len f 0 (length numbers) column column (pos 0) within (omega arith))) (omega (arith, fold_fits fraction (entries_of numbers column)))
    by (inr past) = subst (λ z. unsigned_abs z < 2 ^ 15) (sym (get_or_past (map f (upto (length numbers))) column (pos 0) (omega (arith, past, length-map-range_with_len f 0 (length numbers))))) (omega arith)
