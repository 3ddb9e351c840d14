use Rattle.std.proofs.Common.{arith}
use Rattle.xs_planes.proofs.Gather.{bytes_lanes, eight_few}
use Rattle.xs_planes.proofs.read.eight_planes.Goals as goal

pub returns-clause-value : goal.returns-clause-value
returns-clause-value c =
    omega (arith, c.entry-first.ensures.value, c.entry-second.ensures.value, c.entry-third.ensures.value, c.entry-fourth.ensures.value, bytes_lanes c.args.number c.requires)

pub returns-clause-few : goal.returns-clause-few
returns-clause-few c = omega (arith, returns-clause-value c, eight_few c.args.number)
