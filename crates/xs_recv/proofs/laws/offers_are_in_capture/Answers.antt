use Rattle.xs_recv.proofs.laws.offers_are_in_capture.Goals as goal
use Rattle.xs_recv.proofs.Dealt as proved

pub returns : goal.returns
returns c = proved.offers_are_in_capture
