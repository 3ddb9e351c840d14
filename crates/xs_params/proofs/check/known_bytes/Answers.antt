use Rattle.std.proofs.Common.{arith}
use Rattle.xs_params.proofs.Boxes.{each_byte}
use Rattle.xs_params.proofs.check.known_bytes.Goals as goal

pub returns : goal.returns
returns c = each_byte c.args.bytes.now (λ i. omega (arith, c.type_inv.bytes i))
