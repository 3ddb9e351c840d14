use Rattle.xs_grammar.proofs.Coded as coded
use Rattle.xs_grammar.proofs.slice_read_again.Goals as goal

pub returns : goal.returns
returns c = coded.slice_read_again
