use Rattle.std.proofs.Common.{ap, ◌∙◌}
use Rattle.xs_wave.specs.Rows.{rows_of_entries}
use Rattle.xs_wave.proofs.Flat.{blank_rows}
use Rattle.xs_wave.proofs.planes.Plane.blank.Goals as goal

pub returns : goal.returns
returns c = ap (rows_of_entries c.args.width c.args.height) c.in_ok-samples.ensures ∙ blank_rows c.args.width c.args.height
