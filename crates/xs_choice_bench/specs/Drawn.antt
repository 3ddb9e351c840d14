-- Rows with drawn numbers.
use Rattle.std.specs.Prelude.{ℕ, List}
use Rattle.xs_params.specs.declared.header.Header.{Header}
use Rattle.xs_geometry.specs.SliceLines.{AreLinesOf, BandLines, HasLine, rows_held}
use Rattle.xs_rate.specs.Laws.{IsSmallRow}

-- each row that is there has small numbers
abbrev pub AreSmallLines : List BandLines → Type 0
AreSmallLines bands = (band line : ℕ) → HasLine bands band line → IsSmallRow (rows_held bands band line)

-- rows of a slice stay so
abbrev pub KeepsLines : List BandLines → List BandLines → Type 0
KeepsLines old new = (h : Header) (slice : ℕ) → AreLinesOf h slice old → AreLinesOf h slice new
