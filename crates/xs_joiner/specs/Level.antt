-- One level of a component's inverse: '5/3 wavelet'.
use Rattle.std.specs.Prelude.{◌≡◌, ℕ, ◌+◌, ◌-◌, ◌*◌, ◌<◌, ◌≤◌, List, ℤ, length, true, false, if◌then◌else◌}
use Rattle.xs_signal.specs.Lines.{entries_of, Shows}
use Rattle.xs_signal.specs.Wavelet.{low_count, high_count, inverse_line}
use Rattle.xs_joiner.specs.Units.{BelowUnits}
use Rattle.xs_joiner.specs.Columns.{IsColumns, HoldsLast, IsKnown, IsSameColumns, SameLine, joined_rows}
use Rattle.xs_joiner.specs.declared.level.Level.{Level}
use Rattle.xs_joiner.specs.declared.source.Band.{Band}
use Rattle.xs_joiner.specs.declared.source.Band.TheVariants.{Hl, Lh, Hh}

-- how many rows a level takes
abbrev pub lows : Level → ℕ
lows l = if l.deep then low_count l.columns.height else l.columns.height

-- The rows that a level gives, from rows that are joined across: the low-pass ones, and the high-pass ones where it is split
-- down.
abbrev pub given_rows : Level → (ℕ → ℕ → ℤ) → (ℕ → ℕ → ℤ) → ℕ → ℕ → ℤ
given_rows l low high = if l.deep then joined_rows l.columns.height low high else low

-- a level between two rows
pub record IsLevel (l : Level) : Type 0 where
  pub columns : IsColumns l.columns
  pub two : l.deep ≡ true → 2 ≤ l.columns.height
  pub flat : l.deep ≡ false → BelowUnits (l.columns.reach + 6) (entries_of l.columns.even)
  pub low_width : length l.low ≡ low_count l.columns.width
  pub high_width : length l.high ≡ high_count l.columns.width

-- it holds the last of the rows from `start` on
pub record HoldsRows (start : ℕ) (low high : ℕ → ℕ → ℤ) (l : Level) : Type 0 where
  pub last : l.deep ≡ true → HoldsLast start low high l.columns
  pub flat : l.deep ≡ false → start < l.columns.taken → Shows l.columns.even (low (l.columns.taken - 1))

-- a level of the same size
pub record IsSameLevel (old new : Level) : Type 0 where
  pub columns : IsSameColumns old.columns new.columns
  pub deep : new.deep ≡ old.deep

-- there is a further low-pass row, and the next row lies past those that are known
pub record NeedsRow (l : Level) : Type 0 where
  pub more : l.columns.taken < low_count l.columns.height
  pub past : 2 * l.columns.taken < l.given + 2

-- the next row is known
pub record IsKnownLine (l : Level) : Type 0 where
  pub inside : l.given < l.columns.height
  pub deep : l.deep ≡ true → IsKnown l.given l.columns
  pub flat : l.deep ≡ false → l.columns.taken ≡ l.given + 1

-- the rows that a level takes next are those of these planes, joined across
pub record AreNext (l : Level) (row : List ℤ) (rows : Band → ℕ → List ℤ) (number : ℕ) (lows highs : ℕ → ℕ → ℤ) : Type 0 where
  pub low : SameLine l.columns.width (lows l.columns.taken) (inverse_line l.columns.width (entries_of row) (entries_of (rows (Hl number) l.columns.taken)))
  pub high : l.deep ≡ true → l.columns.taken < high_count l.columns.height
      → SameLine l.columns.width (highs l.columns.taken) (inverse_line l.columns.width (entries_of (rows (Lh number) l.columns.taken)) (entries_of (rows (Hh number) l.columns.taken)))
