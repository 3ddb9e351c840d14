use Rattle.std.proofs.Common.{arith}
use Rattle.std.proofs.lemmas.Nat.{shl_whole, or_shifted}
use Rattle.xs_counts.proofs.write.joined.Goals as goal

pub returns : goal.returns
returns c = rw (shl_whole c.args.high 30 c.args.width 64 c.requires.high (omega arith)) (or_shifted _ _ _ c.requires.low)
