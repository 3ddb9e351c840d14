use Rattle.xs_rate.proofs.Bodies as laws
use Rattle.xs_rate.proofs.chosen_fits.Goals as goal

pub returns : goal.returns
returns c = laws.chosen_fits
