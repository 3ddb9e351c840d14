-- Rows that hold a plane: '5/3 wavelet'.
use Rattle.std.specs.Prelude.{◌≡◌, ℕ, ◌<◌, [], List, length, slice_index_or, ℤ}
use Rattle.xs_signal.specs.Lines.{entries_of, AllBelow}

-- the plane of a list of rows, 0 past its ends
abbrev pub plane_of : List (List ℤ) → ℕ → ℕ → ℤ
plane_of rows row = entries_of (slice_index_or rows row [])

-- each row has this width
abbrev pub IsWide : ℕ → List (List ℤ) → Type 0
IsWide width rows = (row : ℕ) → row < length rows → length (slice_index_or rows row []) ≡ width

-- so many rows of this width
pub record HasSize (width height : ℕ) (rows : List (List ℤ)) : Type 0 where
  pub wide : IsWide width rows
  pub high : length rows ≡ height

-- each entry has a magnitude below the bound
abbrev pub IsSmall : ℕ → List (List ℤ) → Type 0
IsSmall bound rows = (row : ℕ) → AllBelow bound (plane_of rows row)
