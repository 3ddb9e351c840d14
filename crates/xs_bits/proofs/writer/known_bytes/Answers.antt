use Rattle.std.proofs.Common.{arith}
use Rattle.xs_bits.proofs.Laws.{each_byte}
use Rattle.xs_bits.proofs.writer.known_bytes.Goals as goal

pub returns : goal.returns
returns c = each_byte c.args.items.now (λ i. omega (arith, c.type_inv.items i))
