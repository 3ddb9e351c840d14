use Rattle.std.proofs.lemmas.Nat.{one_shl, and_mask}
use Rattle.xs_planes.proofs.read.low_bits.Goals as goal

pub returns : goal.returns
returns c = rw (one_shl c.args.width 64 c.requires) (and_mask _ _)
