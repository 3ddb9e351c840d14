-- The rows of a level that wait for those below them: '5/3 wavelet'.
use Rattle.std.specs.Prelude.{◌≡◌, ℕ, ◌+◌, ◌-◌, ◌*◌, ◌/◌, ◌%◌, ◌^◌, ◌<◌, length, ℤ}
use Rattle.xs_signal.specs.Lines.{entries_of, column_of, Shows, AllBelow}
use Rattle.xs_signal.specs.Wavelet.{low_of, high_of}
use Rattle.xs_splitter.specs.declared.columns.Columns.{Columns}

-- each column of a plane of so many rows split down
abbrev pub low_rows : ℕ → (ℕ → ℕ → ℤ) → ℕ → ℕ → ℤ
low_rows height p row column = low_of height (column_of p column) row

abbrev pub high_rows : ℕ → (ℕ → ℕ → ℤ) → ℕ → ℕ → ℤ
high_rows height p row column = high_of height (column_of p column) row

-- the rows that are kept have the width, and their numbers so many bits; an odd row is kept after an even number of rows
pub record IsColumns (c : Columns) : Type 0 where
  pub even_width : length c.even ≡ c.width
  pub odd_width : length c.odd ≡ c.width
  pub high_width : length c.high ≡ c.width
  pub even : AllBelow (2 ^ c.bits) (entries_of c.even)
  pub odd : c.taken % 2 ≡ 0 → AllBelow (2 ^ c.bits) (entries_of c.odd)
  pub high : AllBelow (2 * 2 ^ c.bits) (entries_of c.high)

-- Of the first rows of plane p: the last even row, the odd row that stands after it, and the last high-pass row
-- that is known.
pub record HoldsLast (p : ℕ → ℕ → ℤ) (c : Columns) : Type 0 where
  pub even : 0 < c.taken → Shows c.even (p (2 * ((c.taken - 1) / 2)))
  pub odd : 0 < c.taken → c.taken % 2 ≡ 0 → Shows c.odd (p (c.taken - 1))
  pub high : 2 < c.taken → Shows c.high (high_rows c.height p ((c.taken - 1) / 2 - 1))

-- one row more was taken
pub record HasOneMore (old new : Columns) : Type 0 where
  pub width : new.width ≡ old.width
  pub height : new.height ≡ old.height
  pub bits : new.bits ≡ old.bits
  pub taken : new.taken ≡ old.taken + 1
