-- The first entries of a row, and rows that stand some rows apart.
use Rattle.std.proofs.Common.{◌≡◌, ◌<◌, ◌≤◌, ◌*◌, ◌^◌, ℕ, ℤ, pos, List, length, take, arith, ap, ◌∙◌, inl, inr}
use Rattle.std.proofs.lemmas.Bool.{cases_lt}
use Rattle.std.proofs.lemmas.List.{get_or-take, get_or_past, length-take-le}
use Rattle.std.proofs.lemmas.Nat.{mul-le}
use Rattle.xs_signal.specs.Lines.{entries_of, AllBelow}
use Rattle.xs_signal.specs.Wavelet.{low_count, high_count, low_of, high_of}
use Rattle.xs_wave.specs.Corners.{BelowIn}
use Rattle.xs_wave.proofs.Small.{zero_below}
use Rattle.xs_wave.proofs.Values.{below_same}
use Rattle.xs_wave.proofs.WithinLaws.{low_within, high_within}
use Rattle.xs_wave.proofs.Flat.{times_less}

pub front_small : (bound width : ℕ) (row : List ℤ) → 0 < bound → width ≤ length row → BelowIn bound width (entries_of row) → AllBelow bound (entries_of (take width row))
front_small bound width row some most small k =
    elim (cases_lt k width) [
      | inl less ↦ below_same bound _ _ (get_or-take width row k (pos 0) less) (small k less)
      | inr past ↦ zero_below bound _ some (get_or_past (take width row) k (pos 0) (omega (arith, past, length-take-le width row most)))
    ]

pub front_low : (width : ℕ) (row : List ℤ) → 2 ≤ width → width ≤ length row → (k : ℕ) → k < low_count width → low_of (length (take width row)) (entries_of (take width row)) k ≡ low_of width (entries_of row) k
front_low width row two most k inside =
    ap (λ n. low_of n (entries_of (take width row)) k) (length-take-le width row most) ∙ low_within width (entries_of (take width row)) (entries_of row) two (λ j less. get_or-take width row j (pos 0) less) k inside

pub front_high : (width : ℕ) (row : List ℤ) → width ≤ length row → (k : ℕ) → k < high_count width → high_of (length (take width row)) (entries_of (take width row)) k ≡ high_of width (entries_of row) k
front_high width row most k inside =
    ap (λ n. high_of n (entries_of (take width row)) k) (length-take-le width row most) ∙ high_within width (entries_of (take width row)) (entries_of row) (λ j less. get_or-take width row j (pos 0) less) k inside

pub far_down : (step at : ℕ) → 1 ≤ step → at ≤ step * at
far_down step at some = omega (arith, mul-le 1 at step at some (omega arith))

pub not_too_far : (step at : ℕ) → step ≤ 2 → at < 8192 → step * at < 2 ^ 64
not_too_far step at near inside = omega (arith, mul-le step at 2 8192 near (omega (arith, inside)))

pub farther_down : (step a b : ℕ) → 1 ≤ step → a < b → step * a < step * b
farther_down step a b some less = omega (arith, times_less a b step less, some)
