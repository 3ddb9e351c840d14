use Rattle.xs_joiner.proofs.Begun.{AreBegun}
use Rattle.xs_joiner.proofs.joiner.Joiner.begin.Given as goal

abbrev pub invariant-levels : goal.invariant-levels
invariant-levels g l = AreBegun (g.S.BandRows.rows l.rows) l.first l.level l.start l.fn.self l.self
