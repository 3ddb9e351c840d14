use Rattle.std.proofs.Common.{◌-◌, ◌*◌, ◌^◌, ◌≤◌, List, sum_by}
use Rattle.std.specs.List.{range_with_len}
use Rattle.xs_layout.specs.declared.Candidate.{Candidate}
use Rattle.xs_layout.specs.declared.Weight.{Weight}
use Rattle.xs_geometry.specs.SliceLines.{BandLines, rows_held}
use Rattle.xs_rate.specs.Choice.{precinct_size_at}
use Rattle.xs_rate.specs.Chosen.{size_at}
use Rattle.xs_sizes.specs.Measured.{header_in}
use Rattle.xs_sizes.specs.Stepped.{IsStep}
use Rattle.xs_sizes.proofs.Stepping.{IsSoFar}
use Rattle.xs_sizes.proofs.steps.slice_shift.Given as goal

abbrev pub invariant-precincts : goal.invariant-precincts
invariant-precincts l = record {
  from : l.first ≤ l.precinct;
  removed : l.shift.removed ≤ 2 ^ 40 * (l.precinct - l.first);
  added : l.shift.added ≤ 2 ^ 40 * (l.precinct - l.first);
  left : (bands : List BandLines) (weights : List Weight) (old new : Candidate) → IsStep l.slice bands weights old new l.fn.coding l.fn.change
      → IsSoFar (size_at (header_in l.fn.coding weights) (rows_held bands) l.slice old) (size_at (header_in l.fn.coding weights) (rows_held bands) l.slice new)
      (sum_by (precinct_size_at (header_in l.fn.coding weights) (rows_held bands) old) (range_with_len l.precinct (l.end - l.precinct)))
      (sum_by (precinct_size_at (header_in l.fn.coding weights) (rows_held bands) new) (range_with_len l.precinct (l.end - l.precinct))) l.shift;
}
