use Rattle.std.proofs.Common.{arith}
use Rattle.xs_groups.proofs.Planes.{digits_in_lanes}
use Rattle.xs_groups.proofs.digits_of_eight.Goals as goal

pub returns : goal.returns
returns c =
    digits_in_lanes c.args.low c.args.high (omega (arith, c.well_formed)) (omega (arith, c.well_formed)) (λ i below. c.requires.low i 0 (omega (arith, c.well_formed, below))) (λ i below. c.requires.high i 0 (omega (arith, c.well_formed, below)))
