use Rattle.xs_grammar.proofs.CodedStream as coded
use Rattle.xs_grammar.proofs.written_header.Goals as goal

pub returns : goal.returns
returns c = coded.written_header
