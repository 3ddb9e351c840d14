use Rattle.std.proofs.Common.{ap, subst}
use Rattle.xs_board.specs.declared.claim.Claimed.TheVariants as header
use Rattle.xs_board.specs.Answers.{HeaderAnswers}
use Rattle.xs_board.specs.Passes.{actor, knows}
use Rattle.xs_handover.specs.Passes.{actor as hand_actor}
use Rattle.xs_recv.specs.Activities.{Doing}
use Rattle.xs_recv.proofs.Keeping.{keeps_head, keeps_same}
use Rattle.xs_recv.proofs.Rows.{rows_known}
use Rattle.xs_recv.proofs.Swept.{alone_inside, has_got, header_gone_got, header_part_got, header_swept}
use Rattle.xs_recv.proofs.activity.Activity.try_header.Goals as goal

pub invariant_of-self : goal.invariant_of-self
invariant_of-self c = λ sated.
    let k = c.self.invariant sated in
    let v = actor c.self.inside.pass in
    let w = actor c.claim_header.new.pass in
    let u = subst (λ r. HeaderAnswers v r w) c.in-Ok-Got.field-0-is c.in-Ok-Got.ensures.answer in
    let h = has_got v w 0 c.in-Ok-Got.read.bytes u in (
      keeps_head v.got h.0 w.got c.self.inside.head c.self.inside.kept.items c.in-Ok-Got.read k.0 h.1 h.2 h.3,
      rows_known (knows c.self.inside.pass) (knows c.claim_header.new.pass) c.self.inside.kept.items (hand_actor c.self.inside.hand) c.self.inside.stripes.items c.claim_header.ensures.knows k.1,
    )

pub invariant_of-self-in-Ok-NotWhole : goal.invariant_of-self-in-Ok-NotWhole
invariant_of-self-in-Ok-NotWhole c = λ sated.
    let k = c.self.invariant sated in
    let v = actor c.self.inside.pass in
    let w = actor c.claim_header.new.pass in
    let u = subst (λ r. HeaderAnswers v r w) c.in-Ok-NotWhole.field-0-is c.in-Ok-NotWhole.ensures.answer in (
      keeps_same v.got w.got c.self.inside.head c.self.inside.kept.items k.0 (header_part_got v w _ u),
      rows_known (knows c.self.inside.pass) (knows c.claim_header.new.pass) c.self.inside.kept.items (hand_actor c.self.inside.hand) c.self.inside.stripes.items c.claim_header.ensures.knows k.1,
    )

pub invariant_of-self-in-Ok-Gone : goal.invariant_of-self-in-Ok-Gone
invariant_of-self-in-Ok-Gone c = λ sated.
    let k = c.self.invariant sated in
    let v = actor c.self.inside.pass in
    let w = actor c.claim_header.new.pass in
    let u = subst (λ r. HeaderAnswers v r w) c.in-Ok-Gone.field-0-is c.in-Ok-Gone.ensures.answer in (
      keeps_same v.got w.got c.self.inside.head c.self.inside.kept.items k.0 (header_gone_got v w u),
      rows_known (knows c.self.inside.pass) (knows c.claim_header.new.pass) c.self.inside.kept.items (hand_actor c.self.inside.hand) c.self.inside.stripes.items c.claim_header.ensures.knows k.1,
    )

pub returns-in-Ok-Got-clause-swept : goal.returns-in-Ok-Got-clause-swept
returns-in-Ok-Got-clause-swept c =
    let w = actor c.claim_header.new.pass in
    let u = subst (λ r. HeaderAnswers (actor c.self.inside.pass) r w) c.in-Ok-Got.field-0-is c.in-Ok-Got.ensures.answer in
    λ alone sated. header_swept (actor c.self.inside.pass) w (header.Got c.in-Ok-Got.read) u (alone_inside c.self.inside.pass c.args.self.now (ap (λ (z : Doing). z.pass) c.self.view_is) alone)

pub returns-in-Ok-NotWhole-clause-swept : goal.returns-in-Ok-NotWhole-clause-swept
returns-in-Ok-NotWhole-clause-swept c =
    let w = actor c.claim_header.new.pass in
    λ alone sated. header_swept (actor c.self.inside.pass) w _ c.in-Ok-NotWhole.ensures.answer (alone_inside c.self.inside.pass c.args.self.now (ap (λ (z : Doing). z.pass) c.self.view_is) alone)
