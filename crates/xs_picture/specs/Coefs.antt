-- The coefficients of a codestream: a header, and the rows of each slice.
use Rattle.std.specs.Prelude.{◌≡◌, ℕ, ◌/◌, ◌<◌, List, [], length, slice_index_or, ℤ}
use Rattle.xs_params.specs.declared.header.Header.{Header}
use Rattle.xs_signal.specs.Lines.{entries_of}
use Rattle.xs_params.specs.Geometry.{slice_count}
use Rattle.xs_params.specs.Accepted.{IsAccepted}
use Rattle.xs_rate.specs.Coefficients.{Rows}
use Rattle.xs_geometry.specs.SliceLines.{BandLines, row_at, slice_height, AreLinesOf}
use Rattle.xs_magnitudes.specs.Small.{HaveSmallRows}

pub record Coefs : Type 0 where
  pub header : Header
  pub slices : List (List BandLines)

-- the row of a band's line stands in the slice that has the line
abbrev pub row_of_slices : Header → List (List BandLines) → ℕ → ℕ → List ℤ
row_of_slices h slices band line = row_at (slice_index_or slices (line / slice_height h band) []) band line

-- the coefficient of a band, line and column
abbrev pub rows_of_slices : Header → List (List BandLines) → Rows
rows_of_slices h slices band line column = entries_of (row_of_slices h slices band line) column

-- the slices are those of the header, and their coefficients are as small as those of a codestream
pub record AreCoefs (coefs : Coefs) : Type 0 where
  pub accepted : IsAccepted coefs.header
  pub count : length coefs.slices ≡ slice_count coefs.header
  pub lines : (slice : ℕ) → slice < slice_count coefs.header → AreLinesOf coefs.header slice (slice_index_or coefs.slices slice [])
  pub small : (slice : ℕ) → slice < slice_count coefs.header → HaveSmallRows (slice_index_or coefs.slices slice [])
