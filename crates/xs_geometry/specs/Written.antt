-- Rows of coefficients of which one was written.
use Rattle.std.specs.Prelude.{ℕ, ◌+◌, ◌-◌, ℤ, List, [], ◌∷◌, ◌++◌, take, drop, length, slice_set}
use Rattle.std.specs.List.{flat_map}
use Rattle.xs_geometry.specs.SliceLines.{BandLines, lines_at}

-- the lines of a band with this row in place of that of a line
abbrev pub with_line : BandLines → ℕ → List ℤ → BandLines
with_line lines line row = record { first = lines.first; rows = slice_set lines.rows (line - lines.first) row }

-- the lines of each band with this row in place of that of a line of a band
abbrev pub with_row : List BandLines → ℕ → ℕ → List ℤ → List BandLines
with_row bands band line row = slice_set bands band (with_line (lines_at bands band) line row)

-- The rows of a slice stand one behind the other in one list of numbers, and what is left behind the reference to a row is written over that list.

-- the numbers of rows
abbrev pub row_numbers : List (List ℤ) → List ℤ
row_numbers rows = flat_map (λ row. row) rows

-- the numbers of the rows of all bands
abbrev pub band_numbers : List BandLines → List ℤ
band_numbers bands = flat_map (λ lines. row_numbers lines.rows) bands

-- how many of them stand before the row of a line
abbrev pub numbers_before : List BandLines → ℕ → ℕ → ℕ
numbers_before bands band line = length (band_numbers (take band bands)) + length (row_numbers (take (line - (lines_at bands band).first) (lines_at bands band).rows))

-- rows of the same lengths with these numbers
abbrev pub rows_refilled : List (List ℤ) → List ℤ → List (List ℤ)
rows_refilled [] numbers = []
rows_refilled (row ∷ rows) numbers = take (length row) numbers ∷ rows_refilled rows (drop (length row) numbers)

abbrev pub bands_refilled : List BandLines → List ℤ → List BandLines
bands_refilled [] numbers = []
bands_refilled (lines ∷ bands) numbers = record { first = lines.first; rows = rows_refilled lines.rows numbers } ∷ bands_refilled bands (drop (length (row_numbers lines.rows)) numbers)

-- numbers of which these were written over those from a place on
abbrev pub written_from : ℕ → List ℤ → List ℤ → List ℤ
written_from place old new = take place old ++ take (length (drop place old)) (new ++ drop (length new) (drop place old))

-- the lines of each band after this was left behind the reference to the row of a line: it is the row itself where it has the row's length
abbrev pub with_lent : List BandLines → ℕ → ℕ → List ℤ → List BandLines
with_lent bands band line row = bands_refilled bands (written_from (numbers_before bands band line) (band_numbers bands) row)
