use Rattle.std.proofs.Common.{arith}
use Rattle.xs_planes.proofs.Gather.{in_lanes, byte_few}
use Rattle.xs_planes.proofs.read.entry.Goals as goal

pub returns-clause-value : goal.returns-clause-value
returns-clause-value c = in_lanes c.args.table.now c.args.byte c.requires.there c.requires.lanes

pub returns-clause-few : goal.returns-clause-few
returns-clause-few c = omega (arith, returns-clause-value c, byte_few c.args.byte)
