-- One level of a component's split, and the rows of its bands: '5/3 wavelet'.
use Rattle.std.specs.Prelude.{◌≡◌, ℕ, ◌-◌, ◌/◌, ◌<◌, ◌≤◌, ◌++◌, ◌∷◌, [], List, length, slice_index_or, ℤ, if◌then◌else◌, Bool, true, false}
use Rattle.xs_signal.specs.Lines.{Shows}
use Rattle.xs_signal.specs.Wavelet.{low_of, high_of, low_count, high_count}
use Rattle.xs_splitter.specs.Parts.{IsSplitOff}
use Rattle.xs_splitter.specs.Columns.{low_rows, high_rows, IsColumns, HoldsLast}
use Rattle.xs_splitter.specs.declared.level.Level.{Level}

-- of a plane's rows those that a level splits across in any case: the low-pass rows where it is split down, else all
abbrev pub kept_rows : Level → (ℕ → ℕ → ℤ) → ℕ → ℕ → ℤ
kept_rows l p = if l.deep then low_rows l.columns.height p else p

-- the rows that a level gives to the one after it
abbrev pub given_rows : Level → (ℕ → ℕ → ℤ) → ℕ → ℕ → ℤ
given_rows l p row = low_of l.columns.width (kept_rows l p row)

-- the rows of the list from one on are those of the plane, in so many columns
pub record ShowRows (from width : ℕ) (rows : List (List ℤ)) (q : ℕ → ℕ → ℤ) : Type 0 where
  pub wide : (row : ℕ) → from ≤ row → row < length rows → length (slice_index_or rows row []) ≡ width
  pub shown : (row : ℕ) → from ≤ row → row < length rows → Shows (slice_index_or rows row []) (q row)

-- a level holds the first rows of the bands of plane p, from one on
pub record HoldsBands (from : ℕ) (p : ℕ → ℕ → ℤ) (l : Level) : Type 0 where
  pub hl : ShowRows from (high_count l.columns.width) l.hl.items (λ row. high_of l.columns.width (kept_rows l p row))
  pub lh : ShowRows from (low_count l.columns.width) l.lh.items (λ row. low_of l.columns.width (high_rows l.columns.height p row))
  pub hh : ShowRows from (high_count l.columns.width) l.hh.items (λ row. high_of l.columns.width (high_rows l.columns.height p row))

-- and where it is split down, the last of the plane's first rows
pub record HoldsRows (from : ℕ) (p : ℕ → ℕ → ℤ) (l : Level) : Type 0 where
  pub last : l.deep ≡ true → HoldsLast p l.columns
  pub bands : HoldsBands from p l

-- how many low-pass and high-pass rows are known after so many rows, while there are more to come
abbrev pub known_rows : ℕ → ℕ
known_rows taken = (taken - 1) / 2

-- a level between two rows
pub record IsLevel (l : Level) : Type 0 where
  pub two : 2 ≤ l.columns.width
  pub bits : l.columns.bits ≤ 26
  pub columns : l.deep ≡ true → IsColumns l.columns
  pub low : length l.hl.items ≡ (if l.deep then known_rows l.columns.taken else l.columns.taken)
  pub lh : l.deep ≡ true → length l.lh.items ≡ known_rows l.columns.taken
  pub hh : l.deep ≡ true → length l.hh.items ≡ known_rows l.columns.taken

-- a high-pass row was split: both its parts were added to bands
pub record IsHighSplit (line : List ℤ) (old new : Level) : Type 0 where
  pub low : List ℤ
  pub split : IsSplitOff line low old.hh.items new.hh.items
  pub added : new.lh.items ≡ old.lh.items ++ low ∷ []

-- a high-pass row was split if it is a further one; else the bands are as they were
pub record IsLastSplit (further : Bool) (line : List ℤ) (old new : Level) : Type 0 where
  pub more : further ≡ true → IsHighSplit line old new
  pub lh : further ≡ false → new.lh ≡ old.lh
  pub hh : further ≡ false → new.hh ≡ old.hh

-- a level for rows as wide, as many and as great
pub record IsSameLevel (old new : Level) : Type 0 where
  pub width : new.columns.width ≡ old.columns.width
  pub height : new.columns.height ≡ old.columns.height
  pub bits : new.columns.bits ≡ old.columns.bits
  pub deep : new.deep ≡ old.deep

-- all rows of the bands of a level that is split down are known
pub record HasAllRows (l : Level) : Type 0 where
  pub hl : length l.hl.items ≡ low_count l.columns.height
  pub lh : length l.lh.items ≡ high_count l.columns.height
  pub hh : length l.hh.items ≡ high_count l.columns.height

-- the rows of a list from one on up to another are empty, and the others as they were
pub record AreGivenUp (first end : ℕ) (old new : List (List ℤ)) : Type 0 where
  pub many : length new ≡ length old
  pub empty : (row : ℕ) → first ≤ row → row < end → slice_index_or new row [] ≡ []
  pub before : (row : ℕ) → row < first → slice_index_or new row [] ≡ slice_index_or old row []
  pub after : (row : ℕ) → end ≤ row → slice_index_or new row [] ≡ slice_index_or old row []

-- those of each band of a level
pub record HasGivenUp (first end : ℕ) (old new : Level) : Type 0 where
  pub columns : new.columns ≡ old.columns
  pub deep : new.deep ≡ old.deep
  pub hl : AreGivenUp first end old.hl.items new.hl.items
  pub lh : AreGivenUp first end old.lh.items new.lh.items
  pub hh : AreGivenUp first end old.hh.items new.hh.items
