-- The upper left part of a plane that is larger, for '5/3 wavelet'.
use Rattle.std.specs.Prelude.{◌≡◌, ℕ, ◌+◌, ◌*◌, ◌<◌, ◌≤◌, ◌⊎◌, [], List, length, map, slice_index_or, ℤ}
use Rattle.std.specs.List.{range_with_len}
use Rattle.xs_signal.specs.Lines.{IsBelow}
use Rattle.xs_signal.specs.Wavelet.{Split, low_count_at}
use Rattle.xs_signal.specs.Stripe.{rows_at}
use Rattle.xs_wave.specs.Planes.{plane_of}

-- the rows of so many columns of a plane
abbrev pub drawn : ℕ → ℕ → (ℕ → ℕ → ℤ) → List (List ℤ)
drawn width height p = map (λ row. map (λ column. p row column) (range_with_len 0 width)) (range_with_len 0 height)

-- the even rows of a plane, the odd ones, and those that stand so many apart
abbrev pub even_rows : (ℕ → ℕ → ℤ) → ℕ → ℕ → ℤ
even_rows p row = p (2 * row)

abbrev pub odd_rows : (ℕ → ℕ → ℤ) → ℕ → ℕ → ℤ
odd_rows p row = p (2 * row + 1)

abbrev pub rows_by : ℕ → (ℕ → ℕ → ℤ) → ℕ → ℕ → ℤ
rows_by step p row = p (step * row)

-- the part that is left after so many levels, in the upper left of these rows
abbrev pub part_at : Split → ℕ → List (List ℤ) → List (List ℤ)
part_at s level rows = drawn (low_count_at s.width level) (rows_at s level) (plane_of rows)

-- the first entries of the line are below the bound
abbrev pub BelowIn : ℕ → ℕ → (ℕ → ℤ) → Type 0
BelowIn bound width line = (column : ℕ) → column < width → IsBelow bound (line column)

-- so many entries from a place on are below the bound
abbrev pub BelowFrom : ℕ → ℕ → ℕ → (ℕ → ℤ) → Type 0
BelowFrom bound width start line = (k : ℕ) → k < width → IsBelow bound (line (start + k))

-- the entries in so many columns and rows are below the bound
abbrev pub BelowWithin : ℕ → ℕ → ℕ → (ℕ → ℕ → ℤ) → Type 0
BelowWithin bound width height p = (row : ℕ) → row < height → BelowIn bound width (p row)

-- stretches of this length from two places on have no place in common
abbrev pub AreApart : ℕ → ℕ → ℕ → Type 0
AreApart width a b = a + width ≤ b ⊎ b + width ≤ a

-- there are so many rows and more, each of so many columns and more
pub record IsRoomy (width height : ℕ) (rows : List (List ℤ)) : Type 0 where
  pub high : height ≤ length rows
  pub wide : (row : ℕ) → row < length rows → width ≤ length (slice_index_or rows row [])

-- as many rows, each as long
pub record SameShape (old new : List (List ℤ)) : Type 0 where
  pub many : length new ≡ length old
  pub widths : (row : ℕ) → length (slice_index_or new row []) ≡ length (slice_index_or old row [])
