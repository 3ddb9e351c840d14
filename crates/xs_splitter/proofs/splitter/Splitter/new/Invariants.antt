use Rattle.xs_splitter.proofs.Built.{IsBuilt}
use Rattle.xs_splitter.proofs.splitter.Splitter.new.Given as goal

abbrev pub invariant-levels : goal.invariant-levels
invariant-levels l = IsBuilt l.shape l.level l.next l.levels.items
