-- The rows of a level that wait for those below them: '5/3 wavelet'.
use Rattle.std.specs.Prelude.{◌≡◌, ℕ, ◌+◌, ◌-◌, ◌*◌, ◌<◌, ◌≤◌, length, ℤ}
use Rattle.xs_signal.specs.Lines.{entries_of, column_of, Shows}
use Rattle.xs_signal.specs.Wavelet.{low_count, high_count, even_of, odd_of, inverse_line}
use Rattle.xs_joiner.specs.Units.{BelowUnits}
use Rattle.xs_joiner.specs.declared.columns.Columns.{Columns}

-- the plane of so many rows whose columns have these low-pass and high-pass rows, and its even and odd rows
abbrev pub joined_rows : ℕ → (ℕ → ℕ → ℤ) → (ℕ → ℕ → ℤ) → ℕ → ℕ → ℤ
joined_rows height low high row column = inverse_line height (column_of low column) (column_of high column) row

abbrev pub even_rows : ℕ → (ℕ → ℕ → ℤ) → (ℕ → ℕ → ℤ) → ℕ → ℕ → ℤ
even_rows height low high row column = even_of height (column_of low column) (column_of high column) row

abbrev pub odd_rows : ℕ → (ℕ → ℕ → ℤ) → (ℕ → ℕ → ℤ) → ℕ → ℕ → ℤ
odd_rows height low high row column = odd_of height (column_of low column) (column_of high column) row

-- the lines are the same in so many columns
abbrev pub SameLine : ℕ → (ℕ → ℤ) → (ℕ → ℤ) → Type 0
SameLine width f g = (column : ℕ) → column < width → f column ≡ g column

-- the rows that are kept have the width, and their numbers are below so many units
pub record IsColumns (c : Columns) : Type 0 where
  pub two : 2 ≤ c.width
  pub few : c.reach ≤ 43
  pub even_width : length c.even ≡ c.width
  pub odd_width : length c.odd ≡ c.width
  pub high_width : length c.high ≡ c.width
  pub spare_width : length c.spare ≡ c.width
  pub even : BelowUnits (c.reach + 11) (entries_of c.even)
  pub odd : BelowUnits (c.reach + 21) (entries_of c.odd)
  pub high : BelowUnits 10 (entries_of c.high)

-- Of the low-pass rows from `start` on and of the high-pass rows: the even row of the last one that was taken, the odd
-- row above it, and the last high-pass row.
pub record HoldsLast (start : ℕ) (lows highs : ℕ → ℕ → ℤ) (c : Columns) : Type 0 where
  pub even : start < c.taken → Shows c.even (even_rows c.height lows highs (c.taken - 1))
  pub odd : start + 1 < c.taken → Shows c.odd (odd_rows c.height lows highs (c.taken - 2))
  pub high : 0 < c.taken → c.taken ≤ high_count c.height → Shows c.high (highs (c.taken - 1))

-- rows of the same size
pub record IsSameColumns (old new : Columns) : Type 0 where
  pub width : new.width ≡ old.width
  pub height : new.height ≡ old.height
  pub reach : new.reach ≡ old.reach

-- one low-pass row more was taken
pub record HasOneMore (old new : Columns) : Type 0 where
  pub same : IsSameColumns old new
  pub taken : new.taken ≡ old.taken + 1

-- the row with this number is the even one, the odd one above it, or the last of all, below it
pub record IsKnown (number : ℕ) (c : Columns) : Type 0 where
  pub inside : number < c.height
  pub above : 2 * c.taken ≤ number + 3
  pub below : number < 2 * c.taken
  pub last : number + 1 ≡ 2 * c.taken → c.taken ≡ low_count c.height
