use Rattle.xs_spelling.proofs.Unique as unique
use Rattle.xs_spelling.proofs.one_counts.Goals as goal

pub returns : goal.returns
returns c = unique.one_counts
