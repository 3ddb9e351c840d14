use Rattle.std.proofs.Common.{◌∷◌, [], List, true≢false, sym, subst}
use Rattle.std.specs.List.{Contains}
use Rattle.std.proofs.lemmas.List.Elements.{Contains-append_left}
use Rattle.xs_handover.specs.Answers.{StripeAnswers}
use Rattle.xs_handover.specs.Passes.{actor}
use Rattle.xs_recv.specs.declared.activity.MadeStripe.{MadeStripe}
use Rattle.xs_recv.specs.Handed.{AreStripesBy, HasMade}
use Rattle.xs_recv.proofs.Made.{got_stripe, gone_got, gone_stripe, made_of, made_stripe, not_part, part_stripes}
use Rattle.xs_recv.proofs.finishing.Finishing.try_make.Goals as goal

pub returns-in_ok-keep_stripe-in-Got-clause-got : goal.returns-in_ok-keep_stripe-in-Got-clause-got
returns-in_ok-keep_stripe-in-Got-clause-got c = λ claimed. got_stripe c.args.header.now (actor c.args.self.now.stripes.hand) (actor c.claim_stripe.new.pass) c.args.slice c.in-Got.stripe
    (subst (λ r. StripeAnswers (actor c.args.self.now.stripes.hand) c.args.header.now c.args.slice r (actor c.claim_stripe.new.pass)) c.in-Got.is c.in_ok-claim.ensures.answer)

pub returns-in_ok-keep_stripe-in-Got-clause-kept : goal.returns-in_ok-keep_stripe-in-Got-clause-kept
returns-in_ok-keep_stripe-in-Got-clause-kept c = λ made has. subst (λ (l : List MadeStripe). Contains l made) (sym c.in_ok-keep_stripe-in-Got.ensures)
    (Contains-append_left c.args.self.now.stripes.made.items (made_of c.args.slice c.in-Got.stripe ∷ []) made has)

pub returns-in_ok-keep_stripe-in-Got-clause-made : goal.returns-in_ok-keep_stripe-in-Got-clause-made
returns-in_ok-keep_stripe-in-Got-clause-made c = λ held by.
    let u = (subst (λ r. StripeAnswers (actor c.args.self.now.stripes.hand) c.args.header.now c.args.slice r (actor c.claim_stripe.new.pass)) c.in-Got.is c.in_ok-claim.ensures.answer) in
    let made = subst (λ (l : List MadeStripe). AreStripesBy held c.args.header.now (actor c.claim_stripe.new.pass) l × HasMade l c.args.slice) (sym c.in_ok-keep_stripe-in-Got.ensures)
    (made_stripe c.args.header.now (actor c.args.self.now.stripes.hand) (actor c.claim_stripe.new.pass) c.args.slice c.in-Got.stripe u held c.args.self.now.stripes.made.items by) in
    (made.0, λ claimed. made.1)

pub returns-in-Gone-clause-got : goal.returns-in-Gone-clause-got
returns-in-Gone-clause-got c = λ claimed. gone_got c.args.header.now (actor c.args.self.now.stripes.hand) (actor c.claim_stripe.new.pass) c.args.slice c.requires.pass.alone
    (subst (λ r. StripeAnswers (actor c.args.self.now.stripes.hand) c.args.header.now c.args.slice r (actor c.claim_stripe.new.pass)) c.in-Gone.is c.in_ok-claim.ensures.answer)

pub returns-in-Gone-clause-made : goal.returns-in-Gone-clause-made
returns-in-Gone-clause-made c = λ held by.
    let gone = gone_stripe c.args.header.now (actor c.args.self.now.stripes.hand) (actor c.claim_stripe.new.pass) c.args.slice c.requires.pass.alone
    (subst (λ r. StripeAnswers (actor c.args.self.now.stripes.hand) c.args.header.now c.args.slice r (actor c.claim_stripe.new.pass)) c.in-Gone.is c.in_ok-claim.ensures.answer) held c.args.self.now.stripes.made.items by in
    (gone.0, λ claimed. gone.1)

pub returns-in-NotWhole-clause-part : goal.returns-in-NotWhole-clause-part
returns-in-NotWhole-clause-part c = λ part whole.
    not_part (actor c.args.self.now.stripes.hand) (actor c.claim_stripe.new.pass) c.args.slice c.in-NotWhole.field-0 c.requires.pass.alone (c.claim_stripe.ensures.choice c.requires.pass.alone) whole
    (subst (λ r. StripeAnswers (actor c.args.self.now.stripes.hand) c.args.header.now c.args.slice r (actor c.claim_stripe.new.pass)) c.in-NotWhole.is c.in_ok-claim.ensures.answer)

pub returns-in-NotWhole-clause-made : goal.returns-in-NotWhole-clause-made
returns-in-NotWhole-clause-made c = λ held by. (
  part_stripes c.args.header.now (actor c.args.self.now.stripes.hand) (actor c.claim_stripe.new.pass) c.args.slice c.in-NotWhole.field-0
      (subst (λ r. StripeAnswers (actor c.args.self.now.stripes.hand) c.args.header.now c.args.slice r (actor c.claim_stripe.new.pass)) c.in-NotWhole.is c.in_ok-claim.ensures.answer) held c.args.self.now.stripes.made.items by,
  λ claimed. absurd (true≢false (sym claimed)),
)
