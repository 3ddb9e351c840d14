use Rattle.xs_splitter.proofs.Shown as shown
use Rattle.xs_splitter.proofs.bands_shown.Goals as goal

pub returns : goal.returns
returns c = shown.bands_shown
