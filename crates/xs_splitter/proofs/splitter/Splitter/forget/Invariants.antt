use Rattle.xs_splitter.proofs.Forgotten.{IsForgetting}
use Rattle.xs_splitter.proofs.splitter.Splitter.forget.Given as goal

abbrev pub invariant-levels : goal.invariant-levels
invariant-levels l = IsForgetting l.first l.end l.level l.initial.self l.self
