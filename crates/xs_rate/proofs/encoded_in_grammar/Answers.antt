use Rattle.xs_rate.proofs.Encoded as laws
use Rattle.xs_rate.proofs.encoded_in_grammar.Goals as goal

pub returns : goal.returns
returns c = laws.encoded_in_grammar
