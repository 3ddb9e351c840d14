use Rattle.std.proofs.Common.{◌≡◌, ℕ, ◌-◌, ◌<◌, ◌≤◌, length, slice_index_or}
use Rattle.std.specs.Prelude.{if◌then◌else◌, nat_eq}
use Rattle.xs_bits.specs.Counts.{AreCounts}
use Rattle.xs_geometry.specs.SliceLines.{rows_held}
use Rattle.xs_rate.specs.Content.{planes_of}
use Rattle.xs_sizes.specs.Counted.{AreBandSizes}
use Rattle.xs_sizes.proofs.bands.count_band.Given as goal

abbrev pub invariant-lines : goal.invariant-lines
invariant-lines l = record {
  from : l.first ≤ l.line;
  size : length l.scratch.planes.items ≡ l.groups;
  above_size : length l.scratch.above.items ≡ l.groups;
  above_counts : AreCounts l.scratch.above.items;
  above : (group : ℕ) → group < l.groups → slice_index_or l.scratch.above.items group 0 ≡ (if nat_eq l.line l.first then 0 else planes_of (rows_held l.counting.rows.now l.band (l.line - 1)) group);
  lines : AreBandSizes l.counting.geometry.now (rows_held l.counting.rows.now) l.counting.signs l.band l.first l.line l.lines.items;
}
