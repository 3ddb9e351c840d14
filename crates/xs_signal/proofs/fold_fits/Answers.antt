use Rattle.xs_signal.proofs.Magnitudes as laws
use Rattle.xs_signal.proofs.fold_fits.Goals as goal

pub returns : goal.returns
returns c = laws.fold_fits
