use Rattle.xs_pack.proofs.Units as proved
use Rattle.xs_pack.proofs.laws.units_come_back.Goals as goal

pub returns : goal.returns
returns c = proved.units_come_back
