-- The rows of coefficients of a slice: for each band its lines in the slice.
use Rattle.std.specs.Prelude.{◌≡◌, ℕ, ◌+◌, ◌-◌, ◌*◌, ◌<◌, ◌≤◌, min, ℤ, pos, List, [], length, map, slice_index_or, replicate}
use Rattle.xs_params.specs.declared.header.Header.{Header}
use Rattle.xs_lists.specs.Spelling.{upto}
use Rattle.xs_params.specs.Rows.{Rows}
use Rattle.xs_params.specs.Geometry.{bands_of, band_width_of, band_height_of, precinct_lines}

-- the lines of a band in a slice: the number of the first, counted in the whole band, and a row for each
pub record BandLines : Type 0 where
  pub first : ℕ
  pub rows : List (List ℤ)

abbrev pub no_lines : BandLines
no_lines = record { first = 0; rows = [] }

-- the lines of a band
abbrev pub lines_at : List BandLines → ℕ → BandLines
lines_at bands band = slice_index_or bands band no_lines

-- the row of a line of a band
abbrev pub row_at : List BandLines → ℕ → ℕ → List ℤ
row_at bands band line = slice_index_or (lines_at bands band).rows (line - (lines_at bands band).first) []

-- a band has a row for this line
pub record HasLine (bands : List BandLines) (band line : ℕ) : Type 0 where
  pub band_there : band < length bands
  pub from : (lines_at bands band).first ≤ line
  pub line_there : line < (lines_at bands band).first + length (lines_at bands band).rows

-- how many lines of a band a slice has that is not cut at the end of the picture
abbrev pub slice_height : Header → ℕ → ℕ
slice_height h band = h.hsl * precinct_lines h band

-- the first line of a band in a slice, and one past the last
abbrev pub first_line_of : Header → ℕ → ℕ → ℕ
first_line_of h slice band = min (slice * slice_height h band) (band_height_of h band)

abbrev pub end_line_of : Header → ℕ → ℕ → ℕ
end_line_of h slice band = min ((slice + 1) * slice_height h band) (band_height_of h band)

-- there are the lines of a slice for each band, and each row has the band's width
pub record AreLinesOf (h : Header) (slice : ℕ) (bands : List BandLines) : Type 0 where
  pub count : length bands ≡ bands_of h
  pub first : (band : ℕ) → band < bands_of h → (lines_at bands band).first ≡ first_line_of h slice band
  pub lines : (band : ℕ) → band < bands_of h → first_line_of h slice band + length (lines_at bands band).rows ≡ end_line_of h slice band
  pub width : (band line : ℕ) → HasLine bands band line → length (row_at bands band line) ≡ band_width_of h band

-- and each entry is 0
pub record AreBlank (bands : List BandLines) : Type 0 where
  pub zero : (band line : ℕ) → HasLine bands band line → row_at bands band line ≡ replicate (length (row_at bands band line)) (pos 0)

-- the rows as coefficients by band, line and column: 0 where there is none
abbrev pub rows_held : List BandLines → Rows
rows_held bands band line column = slice_index_or (row_at bands band line) column (pos 0)

-- the rows are those of coefficients, each cut at the band's width
abbrev pub ShowRows : Header → Rows → List BandLines → Type 0
ShowRows h rows bands = (band line : ℕ) → HasLine bands band line → row_at bands band line ≡ map (rows band line) (upto (band_width_of h band))
