use Rattle.std.proofs.Common.{ℕ, ◌+◌, ◌*◌, ◌^◌, ◌≤◌, List, drop, sum_by}
use Rattle.std.specs.List.{Contains}
use Rattle.xs_layout.specs.declared.Candidate.{Candidate}
use Rattle.xs_layout.specs.declared.Weight.{Weight}
use Rattle.xs_params.specs.Geometry.{packets_of, precincts_of}
use Rattle.xs_geometry.specs.SliceLines.{BandLines, rows_held}
use Rattle.xs_sizes.specs.Measured.{header_in, packet_size_at}
use Rattle.xs_sizes.specs.Packed.{packets_size_at}
use Rattle.xs_sizes.specs.Stepped.{IsStep}
use Rattle.xs_sizes.proofs.Stepping.{IsSoFar}
use Rattle.xs_sizes.proofs.steps.precinct_shift.Given as goal

abbrev pub invariant-packets : goal.invariant-packets
invariant-packets l = record {
  removed : l.shift.removed ≤ (2 ^ 36 + 6) * l.number;
  added : l.shift.added ≤ (2 ^ 36 + 6) * l.number;
  left : (slice : ℕ) (bands : List BandLines) (weights : List Weight) (old new : Candidate) → IsStep slice bands weights old new l.fn.coding l.fn.change → Contains (precincts_of l.fn.coding.geometry.now slice) l.fn.precinct
      → IsSoFar (packets_size_at (header_in l.fn.coding weights) (rows_held bands) old l.fn.precinct) (packets_size_at (header_in l.fn.coding weights) (rows_held bands) new l.fn.precinct)
      (sum_by (packet_size_at (header_in l.fn.coding weights) (rows_held bands) old l.fn.precinct) (drop l.number (packets_of l.fn.coding.geometry.now l.fn.precinct)))
      (sum_by (packet_size_at (header_in l.fn.coding weights) (rows_held bands) new l.fn.precinct) (drop l.number (packets_of l.fn.coding.geometry.now l.fn.precinct))) l.shift;
}
