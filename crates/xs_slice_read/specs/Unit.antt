-- What is read of a slice as it is sent by itself.
use Rattle.std.specs.Prelude.{◌≡◌, ℕ, None, List}
use Rattle.xs_params.specs.declared.header.Header.{Header}
use Rattle.xs_geometry.specs.SliceLines.{AreLinesOf, BandLines, ShowRows}
use Rattle.xs_grammar.specs.Precinct.{Content}
use Rattle.xs_grammar.specs.Slice.{IsSliceUnit}
use Rattle.xs_reading.specs.Rows.{dequantised_rows}
use Rattle.xs_reading.specs.Slice.{slice_unit_fault}

-- the bytes are what is sent of a slice, which has no fault, and the rows are those of its content
pub record IsUnitRead (h : Header) (slice : ℕ) (rows : List BandLines) (bytes : List ℕ) : Type 0 where
  pub no_fault : slice_unit_fault h slice bytes ≡ None
  pub content : Content
  pub spelled : IsSliceUnit h content slice bytes
  pub lines : AreLinesOf h slice rows
  pub shown : ShowRows h (dequantised_rows h content) rows
