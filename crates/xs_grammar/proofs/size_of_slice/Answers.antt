use Rattle.xs_grammar.proofs.Sizes as coded
use Rattle.xs_grammar.proofs.size_of_slice.Goals as goal

pub returns : goal.returns
returns c = coded.size_of_slice
