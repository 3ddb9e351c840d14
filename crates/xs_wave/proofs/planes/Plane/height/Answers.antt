use Rattle.std.proofs.Common.{ap, ◌∙◌, sym, length}
use Rattle.xs_wave.proofs.Flat.{length_rows}
use Rattle.xs_wave.proofs.planes.Plane.height.Goals as goal

pub returns : goal.returns
returns c = sym (length_rows c.self.inside.width c.self.inside.height c.self.inside.samples.items) ∙ ap length c.self.view_is
