use Rattle.xs_joiner.specs.Midway.{IsMidway}
use Rattle.xs_joiner.proofs.joiner.Joiner.step.Given as goal

abbrev pub invariant-levels : goal.invariant-levels
invariant-levels g l = IsMidway (g.S.BandRows.rows l.rows) l.level l.fn.self l.self

abbrev pub decreases-levels : goal.decreases-levels
decreases-levels g l = l.level
