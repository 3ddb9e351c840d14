use Rattle.std.proofs.Common.{Bor}
use Rattle.xs_stripe.specs.Edges.{EdgeRows}
use Rattle.xs_handover.proofs.Found.{above_found, no_above}
use Rattle.xs_handover.proofs.pieces.above_in.Goals as goal

pub returns-in-None : goal.returns-in-None
returns-in-None c = no_above c.args.header.now c.args.slice c.args.values.now c.requires.some c.requires.there c.in-None.ensures

pub returns-in-Some : goal.returns-in-Some
returns-in-Some c =
    above_found (λ (e : Bor EdgeRows). e.now) c.args.header.now c.args.slice c.args.values.now c.in-Some.value.now c.down_of.result c.requires.some c.requires.there c.in-Some.ensures c.down_of.ensures.decoded c.down_of.ensures.edge
