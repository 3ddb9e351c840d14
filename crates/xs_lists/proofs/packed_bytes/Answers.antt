use Rattle.xs_lists.proofs.Packing as packing
use Rattle.xs_lists.proofs.packed_bytes.Goals as goal

pub returns : goal.returns
returns c = packing.packed_bytes
