use Rattle.xs_recv.proofs.laws.offers_are_dealt.Goals as goal
use Rattle.xs_recv.proofs.Dealt as proved

pub returns : goal.returns
returns c = proved.offers_are_dealt
