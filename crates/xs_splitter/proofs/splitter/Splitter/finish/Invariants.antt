use Rattle.xs_splitter.proofs.Finishing.{IsFinishing}
use Rattle.xs_splitter.proofs.splitter.Splitter.finish.Given as goal

abbrev pub invariant-levels : goal.invariant-levels
invariant-levels l = IsFinishing l.level l.rows l.initial.self l.self
