-- How great the coefficients of a slice are: the count of a code group is at most fifteen planes, 'Bit-plane counts'.
use Rattle.std.specs.Prelude.{ℕ, List}
use Rattle.xs_params.specs.declared.header.Header.{Header}
use Rattle.xs_params.specs.Accepted.{IsAccepted}
use Rattle.xs_signal.specs.Lines.{entries_of}
use Rattle.xs_geometry.specs.SliceLines.{AreLinesOf, BandLines, HasLine, ShowRows, row_at}
use Rattle.xs_grammar.specs.Precinct.{Content}
use Rattle.xs_grammar.specs.Slice.{IsSlice, IsSliceUnit}
use Rattle.xs_rate.specs.Laws.{IsSmallRow}
use Rattle.xs_reading.specs.Rows.{dequantised_rows}

-- each coefficient of the rows is below 2 ^ 15 in magnitude
abbrev pub HaveSmallRows : List BandLines → Type 0
HaveSmallRows bands = (band line : ℕ) → HasLine bands band line → IsSmallRow (entries_of (row_at bands band line))

-- those of the content that a slice spells are
abbrev pub SpelledSmall : Type 0
SpelledSmall = (h : Header) (content : Content) (slice : ℕ) (bytes : List ℕ) (bands : List BandLines) → IsAccepted h → IsSlice h content slice bytes
    → AreLinesOf h slice bands → ShowRows h (dequantised_rows h content) bands → HaveSmallRows bands

-- and so are those of what is sent of a slice
abbrev pub UnitSmall : Type 0
UnitSmall = (h : Header) (content : Content) (slice : ℕ) (bytes : List ℕ) (bands : List BandLines) → IsAccepted h → IsSliceUnit h content slice bytes
    → AreLinesOf h slice bands → ShowRows h (dequantised_rows h content) bands → HaveSmallRows bands
