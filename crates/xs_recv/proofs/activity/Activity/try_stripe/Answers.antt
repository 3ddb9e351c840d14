use Rattle.std.proofs.Common.{◌≡◌, ◌∷◌, ◌++◌, [], ap, refl, subst, sym, ◌∙◌}
use Rattle.xs_lane_core.specs.Machine.{Actor}
use Rattle.xs_board.specs.Passes.{knows}
use Rattle.xs_handover.specs.Answers.{StripeAnswers}
use Rattle.xs_handover.specs.Blocks.{Carried}
use Rattle.xs_handover.specs.Passes.{actor as hand_actor}
use Rattle.xs_recv.specs.declared.activity.MadeStripe.{MadeStripe}
use Rattle.xs_recv.specs.Activities.{Doing, IsReadable, KeepsRows}
use Rattle.xs_recv.proofs.Rows.{rows_same, rows_stripe}
use Rattle.xs_recv.proofs.Keeping.{still_same}
use Rattle.xs_recv.proofs.Made.{ok_is}
use Rattle.xs_recv.proofs.activity.Activity.try_stripe.Goals as goal

pub invariant_of-self : goal.invariant_of-self
invariant_of-self c = λ sated.
    let k = c.self.invariant sated in
    let v = hand_actor c.self.inside.hand in
    let w = hand_actor c.claim_stripe.new.pass in
    let u = subst (λ r. StripeAnswers v c.args.header.now c.args.slice r w) c.in-Ok-Got.field-0-is c.in-Ok-Got.ensures.answer in
    let can = subst (λ (z : Doing). IsReadable (knows z.pass) c.args.header.now c.args.slice) (sym c.self.view_is) c.requires.header in
    let new : MadeStripe = record { slice = c.args.slice; stripe = c.in-Ok-Got.stripe } in (
      k.0,
      subst (KeepsRows (knows c.self.inside.pass) c.self.inside.kept.items w) (sym (ok_is (c.keep_stripe.new.made.items ≡ c.self.inside.stripes.items ++ new ∷ []) c.keep_stripe.result (sym c.is_ok.ensures.value ∙ c.if-is_ok.true) c.keep_stripe.ensures))
          (rows_stripe (knows c.self.inside.pass) c.self.inside.kept.items v w c.self.inside.stripes.items c.args.header.now u.values new can.shown c.claim_stripe.ensures.hands.stored c.claim_stripe.ensures.hands.repeated
          (ap (λ (z : Actor Carried). z.got) u.got.view) u.got.run u.is k.1),
    )

pub invariant_of-self-in-Ok-NotWhole : goal.invariant_of-self-in-Ok-NotWhole
invariant_of-self-in-Ok-NotWhole c = λ sated.
    let k = c.self.invariant sated in
    let v = hand_actor c.self.inside.hand in
    let w = hand_actor c.claim_stripe.new.pass in
    let u = subst (λ r. StripeAnswers v c.args.header.now c.args.slice r w) c.in-Ok-NotWhole.field-0-is c.in-Ok-NotWhole.ensures.answer in (
      k.0,
      rows_same (knows c.self.inside.pass) (knows c.self.inside.pass) c.self.inside.kept.items v w c.self.inside.stripes.items (still_same (knows c.self.inside.pass) (knows c.self.inside.pass) refl) c.claim_stripe.ensures.hands.stored
          c.claim_stripe.ensures.hands.repeated (ap (λ (z : Actor Carried). z.got) u.view) k.1,
    )

pub invariant_of-self-in-Ok-Gone : goal.invariant_of-self-in-Ok-Gone
invariant_of-self-in-Ok-Gone c = λ sated.
    let k = c.self.invariant sated in
    let v = hand_actor c.self.inside.hand in
    let w = hand_actor c.claim_stripe.new.pass in
    let u = subst (λ r. StripeAnswers v c.args.header.now c.args.slice r w) c.in-Ok-Gone.field-0-is c.in-Ok-Gone.ensures.answer in (
      k.0,
      rows_same (knows c.self.inside.pass) (knows c.self.inside.pass) c.self.inside.kept.items v w c.self.inside.stripes.items (still_same (knows c.self.inside.pass) (knows c.self.inside.pass) refl) c.claim_stripe.ensures.hands.stored
          c.claim_stripe.ensures.hands.repeated (ap (λ (z : Actor Carried). z.got) u.view) k.1,
    )
