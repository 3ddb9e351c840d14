use Rattle.xs_grammar.proofs.Coded as coded
use Rattle.xs_grammar.proofs.written_slice.Goals as goal

pub returns : goal.returns
returns c = coded.written_slice
