use Rattle.std.proofs.Common.{arith}
use Rattle.xs_sizes.proofs.Lanes.{lanes_but}
use Rattle.xs_sizes.proofs.lengths.bits_but.Goals as goal

pub returns : goal.returns
returns c t le = lanes_but c.args.bits c.args.many t (omega (arith, c.well_formed)) le
