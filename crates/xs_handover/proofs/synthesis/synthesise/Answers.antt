use Rattle.std.proofs.Common.{Bor}
use Rattle.xs_stripe.specs.Edges.{EdgeRows}
use Rattle.xs_handover.proofs.Synthesised.{above_there, below_there, body_there, none_from, stripe_from}
use Rattle.xs_handover.proofs.synthesis.synthesise.Goals as goal

pub synthesise_stripe-requires-clause-body : goal.synthesise_stripe-requires-clause-body
synthesise_stripe-requires-clause-body c = (body_there c.args.header.now c.args.slice c.args.values.now c.in-Some.pieces.body.now c.in-Some.ensures.body).0

pub synthesise_stripe-requires-clause-small : goal.synthesise_stripe-requires-clause-small
synthesise_stripe-requires-clause-small c = (body_there c.args.header.now c.args.slice c.args.values.now c.in-Some.pieces.body.now c.in-Some.ensures.body).1

pub synthesise_stripe-requires-clause-above : goal.synthesise_stripe-requires-clause-above
synthesise_stripe-requires-clause-above c = above_there (λ (e : Bor EdgeRows). e.now) c.args.header.now c.args.slice c.args.values.now c.in-Some.pieces.above c.in-Some.ensures.above

pub synthesise_stripe-requires-clause-below : goal.synthesise_stripe-requires-clause-below
synthesise_stripe-requires-clause-below c = below_there (λ (e : Bor EdgeRows). e.now) c.args.header.now c.args.slice c.args.values.now c.in-Some.pieces.below c.in-Some.ensures.below

pub returns-in-Some : goal.returns-in-Some
returns-in-Some c =
    stripe_from (λ (e : Bor EdgeRows). e.now) c.args.header.now c.args.slice c.args.values.now c.in-Some.pieces.body.now c.in-Some.pieces.above c.in-Some.pieces.below c.synthesise_stripe.result
    c.in-Some.ensures.body c.in-Some.ensures.above c.in-Some.ensures.below c.synthesise_stripe.ensures

pub returns-in-None : goal.returns-in-None
returns-in-None c = none_from c.args.header.now c.args.slice c.args.values.now c.blank.result (λ by. c.in-None.ensures (c.requires.run, by))
