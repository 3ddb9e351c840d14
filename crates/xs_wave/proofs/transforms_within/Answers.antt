use Rattle.xs_wave.proofs.WithinLaws as laws
use Rattle.xs_wave.proofs.transforms_within.Goals as goal

pub returns : goal.returns
returns c = laws.transforms_within
