use Rattle.xs_pack.proofs.Arrived as proved
use Rattle.xs_pack.proofs.laws.offers_are_sent.Goals as goal

pub returns : goal.returns
returns c = proved.offers_are_sent
