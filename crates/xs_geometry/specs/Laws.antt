-- Laws of rows that were written, and of the geometry that is kept of a header.
use Rattle.std.specs.Prelude.{◌≡◌, ◌≢◌, ◌⊎◌, ◌↔◌, ℕ, ℤ, List, length}
use Rattle.xs_params.specs.declared.header.Header.{Header}
use Rattle.xs_params.specs.Accepted.{IsAccepted, IsGeometry}
use Rattle.xs_geometry.specs.SliceLines.{BandLines, row_at, HasLine, AreLinesOf}
use Rattle.xs_params.specs.Geometry.{geometry_of}
use Rattle.xs_geometry.specs.Written.{with_row, with_lent}

-- a row was written in the place of another of its length, and all else is as before
pub record IsWritten (bands : List BandLines) (band line : ℕ) (row : List ℤ) : Type 0 where
  pub same_lines : (b l : ℕ) → HasLine (with_row bands band line row) b l ↔ HasLine bands b l
  pub here : row_at (with_row bands band line row) band line ≡ row
  pub elsewhere : (b l : ℕ) → HasLine bands b l → (b ≢ band) ⊎ (l ≢ line) → row_at (with_row bands band line row) b l ≡ row_at bands b l

-- it is so with each row that is there
abbrev pub RowWritten : Type 0
RowWritten = (bands : List BandLines) (band line : ℕ) (row : List ℤ) → HasLine bands band line → IsWritten bands band line row

-- a row that is left behind a reference stands in the place of the old one, if it is as long
abbrev pub RowLent : Type 0
RowLent = (bands : List BandLines) (band line : ℕ) (row : List ℤ) → HasLine bands band line → length row ≡ length (row_at bands band line) → with_lent bands band line row ≡ with_row bands band line row

-- the lines of a slice are those of the slice after a row of the same length was written
abbrev pub LinesKept : Type 0
LinesKept = (h : Header) (slice : ℕ) (bands : List BandLines) (band line : ℕ) (row : List ℤ) → AreLinesOf h slice bands → HasLine bands band line → length row ≡ length (row_at bands band line)
    → AreLinesOf h slice (with_row bands band line row)

-- a header that is accepted has the ranges of a geometry, and so has what is kept of it
abbrev pub AcceptedRanges : Type 0
AcceptedRanges = (h : Header) → IsAccepted h → IsGeometry h × IsGeometry (geometry_of h)

-- the lines of a slice by the geometry of a header are those by the header
abbrev pub GeometryKept : Type 0
GeometryKept = (h : Header) (slice : ℕ) (bands : List BandLines) → AreLinesOf (geometry_of h) slice bands ↔ AreLinesOf h slice bands
