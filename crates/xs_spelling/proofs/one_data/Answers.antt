use Rattle.xs_spelling.proofs.OneData as unique
use Rattle.xs_spelling.proofs.one_data.Goals as goal

pub returns : goal.returns
returns c = unique.one_data
