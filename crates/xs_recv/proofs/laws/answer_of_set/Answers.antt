use Rattle.xs_recv.proofs.laws.answer_of_set.Goals as goal
use Rattle.xs_recv.proofs.OneAnswer as proved

pub returns : goal.returns
returns c = proved.answer_of_set
