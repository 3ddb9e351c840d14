use Rattle.xs_splitter.proofs.Forgotten.{IsGivingUp}
use Rattle.xs_splitter.proofs.row.give_up.Given as goal

abbrev pub invariant-rows : goal.invariant-rows
invariant-rows l = IsGivingUp l.first l.row-end l.row l.initial.rows.items l.rows.items
