use Rattle.xs_magnitudes.proofs.Small as laws
use Rattle.xs_magnitudes.proofs.unit_small.Goals as goal

pub returns : goal.returns
returns c = laws.unit_small
