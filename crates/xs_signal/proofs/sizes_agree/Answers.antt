use Rattle.xs_signal.proofs.Sizes as sizes
use Rattle.xs_signal.proofs.sizes_agree.Goals as goal

pub returns : goal.returns
returns c = sizes.sizes_agree
