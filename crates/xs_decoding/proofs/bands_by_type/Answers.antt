use Rattle.xs_decoding.proofs.Numbers as numbers
use Rattle.xs_decoding.proofs.bands_by_type.Goals as goal

pub returns : goal.returns
returns c = numbers.bands_by_type
