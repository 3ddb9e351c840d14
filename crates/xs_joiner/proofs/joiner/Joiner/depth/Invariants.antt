use Rattle.std.proofs.Common.{◌-◌}
use Rattle.xs_joiner.proofs.Depth.{AreMoving}
use Rattle.xs_joiner.proofs.joiner.Joiner.depth.Given as goal

abbrev pub invariant-levels : goal.invariant-levels
invariant-levels l = AreMoving l.self l.depth

abbrev pub decreases-levels : goal.decreases-levels
decreases-levels l = l.self.across - l.depth
