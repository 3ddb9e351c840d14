use Rattle.std.proofs.Common.{arith}
use Rattle.xs_groups.proofs.Planes.{sizes_in_lanes}
use Rattle.std.specs.Prelude.{pos}
use Rattle.xs_groups.proofs.magnitudes_of.Goals as goal

pub returns : goal.returns
returns c = sizes_in_lanes c.args.numbers (omega (arith, c.well_formed)) (λ i below. c.requires i (pos 0) (omega (arith, c.well_formed, below)))
