use Rattle.std.proofs.Common.{Bor}
use Rattle.xs_stripe.specs.Edges.{EdgeRows}
use Rattle.xs_handover.proofs.Found.{below_found, no_below}
use Rattle.xs_handover.proofs.pieces.below_in.Goals as goal

pub returns-in-None : goal.returns-in-None
returns-in-None c = no_below c.args.header.now c.args.slice c.args.values.now c.place_below.result c.requires.more c.place_below.ensures c.in-None.ensures

pub returns-in-Some : goal.returns-in-Some
returns-in-Some c =
    below_found (λ (e : Bor EdgeRows). e.now) c.args.header.now c.args.slice c.args.values.now c.place_below.result c.in-Some.value.now c.up_of.result c.requires.more c.place_below.ensures c.in-Some.ensures c.up_of.ensures.decoded c.up_of.ensures.edge
