use Rattle.std.proofs.Common.{◌≡◌, ◌+◌, ◌-◌, ◌*◌, ◌<◌, ◌≤◌}
use Rattle.xs_layout.specs.Geometry.{components_of}
use Rattle.xs_samples.specs.Rows.{AreRows}
use Rattle.xs_cli.proofs.RawTaken.{HasTaken}
use Rattle.xs_cli.proofs.raw_input.read_raw.Given as goal

abbrev pub invariant-chunks : goal.invariant-chunks
invariant-chunks g l = record {
  shape : l.planes.shape ≡ l.fn.shape;
  rows : AreRows l.fn.shape l.rows;
  there : l.rows.component < components_of l.fn.shape.format;
  taken : HasTaken l.fn.shape l.planes l.rows l.done (g.R.Source.left l.fn.input) (g.R.Source.left l.input) l.bytes;
  later : g.R.Source.faults l.fn.input ≤ g.R.Source.faults l.input;
}

abbrev pub decreases-chunks : goal.decreases-chunks
decreases-chunks g l = components_of l.fn.shape.format * l.fn.shape.height - (l.rows.component * l.fn.shape.height + l.rows.first)
