use Rattle.std.proofs.Common.{◌≡◌, ℕ, ◌+◌, ◌<◌, length, slice_index_or}
use Rattle.xs_geometry.specs.SliceLines.{rows_held}
use Rattle.xs_sizes.specs.declared.precincts.PrecinctCounts.{PrecinctCounts}
use Rattle.xs_sizes.specs.Precincts.{IsPrecinctKept}
use Rattle.xs_sizes.proofs.precincts.keep_precincts.Given as goal

abbrev pub invariant-precincts : goal.invariant-precincts
invariant-precincts l = record {
  count : l.fn.precincts.0 + length l.kept.items ≡ l.precinct;
  each : (number : ℕ) (none : PrecinctCounts) → number < length l.kept.items → IsPrecinctKept l.fn.counting.geometry.now (rows_held l.fn.counting.rows.now) (l.fn.precincts.0 + number) (slice_index_or l.kept.items number none);
}
