use Rattle.xs_spelling.proofs.Unique as unique
use Rattle.xs_spelling.proofs.one_residual.Goals as goal

pub returns : goal.returns
returns c = unique.one_residual
