use Rattle.std.proofs.Common.{arith}
use Rattle.xs_geometry.proofs.Places.{second_level}
use Rattle.xs_geometry.proofs.packets.place_at.Goals as goal

pub returns-else-number-le3-clause-place : goal.returns-else-number-le3-clause-place
returns-else-number-le3-clause-place c =
    second_level c.args.nlx c.args.nly c.args.precinct c.args.number (omega (arith, c.requires.down)) (omega (arith, c.if-number-le3.false)) c.requires.there
