use Rattle.xs_recv.proofs.laws.sent_is_received.Goals as goal
use Rattle.xs_recv.proofs.Sent as proved

pub returns : goal.returns
returns c = proved.sent_is_received
