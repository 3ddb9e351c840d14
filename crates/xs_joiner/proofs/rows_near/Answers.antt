use Rattle.xs_joiner.proofs.Near as near
use Rattle.xs_joiner.proofs.rows_near.Goals as goal

pub returns : goal.returns
returns c = near.rows_near
