use Rattle.xs_rate.proofs.Bodies as laws
use Rattle.xs_rate.proofs.bodies_fit.Goals as goal

pub returns : goal.returns
returns c = laws.bodies_fit
