use Rattle.xs_splitter.proofs.Chains.{IsMidway}
use Rattle.xs_splitter.proofs.splitter.Splitter.carry.Given as goal

abbrev pub invariant-levels : goal.invariant-levels
invariant-levels l = IsMidway l.first l.place l.level l.initial.self l.self l.initial.row l.row
