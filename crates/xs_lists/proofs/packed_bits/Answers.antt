use Rattle.xs_lists.proofs.Packing as packing
use Rattle.xs_lists.proofs.packed_bits.Goals as goal

pub returns : goal.returns
returns c = packing.packed_bits
