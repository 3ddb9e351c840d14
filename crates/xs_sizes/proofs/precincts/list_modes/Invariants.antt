use Rattle.std.proofs.Common.{◌≡◌, ℕ, ◌<◌, List, length, slice_index_or}
use Rattle.xs_geometry.specs.SliceLines.{rows_held}
use Rattle.xs_sizes.specs.Precincts.{AreModes}
use Rattle.xs_sizes.proofs.precincts.list_modes.Given as goal

abbrev pub invariant-bands : goal.invariant-bands
invariant-bands l = record {
  count : length l.modes.items ≡ l.band;
  each : (band : ℕ) (none : List ℕ) → band < length l.modes.items → AreModes l.fn.counting.geometry.now (rows_held l.fn.counting.rows.now) l.precinct band (slice_index_or l.modes.items band none);
}
