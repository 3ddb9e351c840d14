use Rattle.std.proofs.Common.{ℕ, ◌<◌, ◌≤◌, ◌+◌, sym, ap, subst, ◌∙◌, arith}
use Rattle.xs_lane_core.specs.Machine.{Actor}
use Rattle.xs_lane_core.specs.Sound.{IsAlone}
use Rattle.xs_lanes.specs.Settled.{IsDone}
use Rattle.xs_capture.specs.Offer.{Offer}
use Rattle.xs_stored.specs.Stored.{AreIn, held_in, packets}
use Rattle.xs_board.specs.Passes.{actor, knows, unit_count}
use Rattle.xs_handover.specs.Passes.{IsHandPass, actor as hand_actor, stripe_count}
use Rattle.xs_recv.specs.Activities.{Doing}
use Rattle.xs_recv.specs.Sweeping.{GotIfWhole, IsKeptOf}
use Rattle.xs_recv.specs.declared.activity.Kept.{Kept}
use Rattle.xs_recv.specs.declared.activity.Stripes.{Stripes}
use Rattle.xs_recv.proofs.Ending.{ended}
use Rattle.xs_recv.proofs.activity.Activity.end.Goals as goal

pub returns-clause-kept : goal.returns-clause-kept
returns-clause-kept c =
    let view = c.self.view_is in
    let rows : Stripes = record { hand = c.self.inside.hand; made = c.self.inside.stripes } in
    let kept : Kept = record { head = c.self.inside.head; copies = c.self.inside.kept; stripes = rows; trusted = c.is_shown-trusted.result } in
    let k = c.self.invariant (ap (λ (z : Doing). z.starved) view ∙ c.requires.sated) in
    let count = c.args.exchange.has_stripes in
    let some = c.args.exchange.has_room in
    let room : unit_count c.args.exchange.board ≤ stripe_count c.args.exchange.handover + 1 = omega (arith, count, some) in
    subst (λ (v : Actor Offer). IsKeptOf (held_in v.stored) c.args.exchange.handover kept) (sym (c.close.ensures.last.0 ∙ c.is_shown-trusted.ensures.same))
    (ended (actor c.self.inside.pass) (unit_count c.args.exchange.board) (knows c.self.inside.pass) c.args.exchange.handover kept (subst (IsDone packets) c.is_shown-trusted.ensures.same c.close.ensures.done)
    (subst (λ (z : Doing). AreIn (unit_count c.args.exchange.board) (actor z.pass).stored) (sym view) c.requires.pass.stored)
    (subst (λ (z : Doing). (unit : ℕ) → unit < unit_count c.args.exchange.board → GotIfWhole (actor z.pass) unit) (sym view) c.requires.all) room
    (subst (λ (z : Doing). IsHandPass c.args.exchange.handover z.hand) (sym view) c.requires.hand) (subst (λ (z : Doing). IsAlone (hand_actor z.hand)) (sym view) c.requires.single) k.0 k.1 c.is_shown-trusted.ensures.shown)
