use Rattle.xs_grammar.proofs.Sizes as coded
use Rattle.xs_grammar.proofs.written_bytes.Goals as goal

pub returns : goal.returns
returns c = coded.written_bytes
