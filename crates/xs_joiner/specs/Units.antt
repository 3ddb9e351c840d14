-- Bounds in units of 2^21: an entry of a band is below 4 of them.
use Rattle.std.specs.Prelude.{◌≡◌, ℕ, ℤ, ◌*◌, ◌^◌, Bool, if◌then◌else◌, List, length}
use Rattle.xs_signal.specs.Lines.{AllBelow, entries_of}

-- each entry of the line is below so many units
abbrev pub BelowUnits : ℕ → (ℕ → ℤ) → Type 0
BelowUnits units line = AllBelow (units * 2 ^ 21) line

-- how many units the rows of a level, split down or not, have more than the rows that it takes
abbrev pub rise : Bool → ℕ
rise deep = if deep then 21 else 6

-- a row that is there: it has this width, and its numbers are below the bound of bands
pub record IsFresh (width : ℕ) (numbers : List ℤ) : Type 0 where
  pub wide : length numbers ≡ width
  pub small : BelowUnits 4 (entries_of numbers)
