use Rattle.xs_decoding.proofs.Within as within
use Rattle.xs_decoding.proofs.decoded_within.Goals as goal

pub returns : goal.returns
returns c = within.decoded_within
