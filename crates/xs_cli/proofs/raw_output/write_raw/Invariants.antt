use Rattle.std.proofs.Common.{◌+◌, ◌-◌, ◌*◌, ◌≤◌}
use Rattle.std.specs.Io.KnownBytes.{Appends}
use Rattle.xs_layout.specs.Geometry.{components_of}
use Rattle.xs_params.specs.Picture.{row_first}
use Rattle.xs_samples.specs.Rows.{AreRows}
use Rattle.xs_cli.proofs.RawGiven.{raw_front}
use Rattle.xs_cli.proofs.raw_output.write_raw.Given as goal

abbrev pub invariant-chunks : goal.invariant-chunks
invariant-chunks g l = record {
  rows : AreRows l.shape l.rows;
  given : Appends (g.W.Sink.held l.initial.output) (g.W.Sink.held l.output) (raw_front l.planes (row_first l.planes.shape l.rows.component l.rows.first));
  later : g.W.Sink.faults l.initial.output ≤ g.W.Sink.faults l.output;
}

abbrev pub decreases-chunks : goal.decreases-chunks
decreases-chunks g l = components_of l.shape.format * l.shape.height - (l.rows.component * l.shape.height + l.rows.first)
