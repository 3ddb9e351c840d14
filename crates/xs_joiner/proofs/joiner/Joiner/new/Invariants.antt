use Rattle.xs_joiner.proofs.Built.{IsBuilt}
use Rattle.xs_joiner.proofs.joiner.Joiner.new.Given as goal

abbrev pub invariant-levels : goal.invariant-levels
invariant-levels l = IsBuilt l.shape l.level l.next l.levels.items l.lines.items
