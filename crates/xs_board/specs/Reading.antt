-- What is read of a header unit.
use Rattle.std.specs.Prelude.{ℕ, Option, Some, None, List}
use Rattle.xs_faults.specs.declared.HeadFault.{HeadFault}
use Rattle.xs_params.specs.declared.header.Header.{Header}
use Rattle.xs_markers.specs.Units.{header_unit_fault, header_unit_at}
use Rattle.xs_board.specs.declared.reading.Reading.{Reading}
use Rattle.xs_board.specs.declared.reading.Reading.TheVariants.{Good, Bad}

-- a header and its length, if there is no fault before it
abbrev pub read_unless : Option HeadFault → Header × ℕ → Reading
read_unless None read = Good read.0 read.1
read_unless (Some fault) read = Bad fault

abbrev pub reading_of : List ℕ → Reading
reading_of bytes = read_unless (header_unit_fault bytes) (header_unit_at bytes)
