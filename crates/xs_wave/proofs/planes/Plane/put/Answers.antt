use Rattle.std.proofs.Common.{length, ap, ◌∙◌}
use Rattle.xs_wave.proofs.Lent.{lent_other, lent_shape}
use Rattle.xs_wave.proofs.planes.Plane.put.Goals as goal

pub returns-clause-others : goal.returns-clause-others
returns-clause-others c = lent_other c.args.self.now c.args.at c.write_front.new.row c.requires.at (c.write_front.auto.row ∙ ap length c.line_mut.ensures.value)

pub returns-clause-shape : goal.returns-clause-shape
returns-clause-shape c = lent_shape c.args.self.now c.args.at c.write_front.new.row c.requires.at (c.write_front.auto.row ∙ ap length c.line_mut.ensures.value)
