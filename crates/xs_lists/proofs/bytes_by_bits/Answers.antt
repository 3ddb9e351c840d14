use Rattle.xs_lists.proofs.Packing as packing
use Rattle.xs_lists.proofs.bytes_by_bits.Goals as goal

pub returns : goal.returns
returns c = packing.bytes_by_bits
