use Rattle.std.proofs.Common.{◌≤◌, length}
use Rattle.xs_geometry.specs.SliceLines.{AreLinesOf}
use Rattle.xs_slice_read.proofs.Precincts.{SliceSoFar}
use Rattle.xs_slice_read.proofs.slice.read_front.Given as goal

abbrev pub invariant-precincts : goal.invariant-precincts
invariant-precincts l = record {
  lines : AreLinesOf l.header l.slice l.rows;
  within : l.at ≤ length l.bytes;
  read : SliceSoFar l.header l.slice l.bytes l.above l.rows l.at l.precinct;
}
