use Rattle.std.proofs.Common.{Option, ap, sym, subst, ◌∙◌, ◌++◌, List}
use Rattle.std.specs.Option.{option_or}
use Rattle.xs_lane_core.specs.Machine.{Actor, joined}
use Rattle.xs_capture.specs.Offer.{Offer}
use Rattle.xs_board.specs.declared.head.HeadRead.{HeadRead}
use Rattle.xs_board.specs.Passes.{actor, knows}
use Rattle.xs_handover.specs.Blocks.{Carried}
use Rattle.xs_handover.specs.Passes.{actor as hand_actor}
use Rattle.xs_recv.specs.declared.activity.MadeStripe.{MadeStripe}
use Rattle.xs_recv.specs.declared.activity.SliceCopy.{SliceCopy}
use Rattle.xs_recv.specs.Activities.{Keeps, KeepsRows}
use Rattle.xs_recv.proofs.Keeping.{joins_kept}
use Rattle.xs_recv.proofs.Rows.{rows_joined}
use Rattle.xs_recv.proofs.activity.Activity.absorb.Goals as goal

pub invariant_of-self : goal.invariant_of-self
invariant_of-self c = λ sated.
    let moved = c.is_starved-self-inside.ensures.moved sated in
    let mine = c.self.invariant (c.is_starved-self-inside.ensures.one sated) in
    let theirs = c.other.invariant (c.is_starved-self-inside.ensures.other sated) in
    let kept = c.keep_copies-copies.ensures moved.0 in
    let made = c.keep_stripes-made.ensures moved.1 in
    let head = c.or.ensures ∙ ap (λ (o : Option HeadRead). option_or o c.other.inside.head) c.take.ensures.value in
    let got = ap (λ (v : Actor Offer). v.got) c.join.ensures.union in
    let units : Keeps (actor c.join.new.pass).got c.or.result c.keep_copies-copies.new.kept.items =
    subst (λ (l : List Offer). Keeps l c.or.result c.keep_copies-copies.new.kept.items) (sym got)
    (subst (λ (o : Option HeadRead). Keeps ((actor c.self.inside.pass).got ++ (actor c.other.inside.pass).got) o c.keep_copies-copies.new.kept.items) (sym head)
    (subst (Keeps ((actor c.self.inside.pass).got ++ (actor c.other.inside.pass).got) (option_or c.self.inside.head c.other.inside.head)) (sym kept)
    (joins_kept (actor c.self.inside.pass).got (actor c.other.inside.pass).got c.self.inside.head c.other.inside.head c.self.inside.kept.items c.other.inside.kept.items mine.0 theirs.0))) in
    let rows : KeepsRows (knows c.join.new.pass) c.keep_copies-copies.new.kept.items (hand_actor c.join-2.new.pass) c.keep_stripes-made.new.stripes.items =
    subst (λ (l : List MadeStripe). KeepsRows (knows c.join.new.pass) c.keep_copies-copies.new.kept.items (hand_actor c.join-2.new.pass) l) (sym made)
    (subst (λ (v : Actor Carried). KeepsRows (knows c.join.new.pass) c.keep_copies-copies.new.kept.items v (c.self.inside.stripes.items ++ c.other.inside.stripes.items)) (sym c.join-2.ensures.union)
    (subst (λ (l : List SliceCopy). KeepsRows (knows c.join.new.pass) l (joined (hand_actor c.self.inside.hand) (hand_actor c.other.inside.hand)) (c.self.inside.stripes.items ++ c.other.inside.stripes.items)) (sym kept)
    (rows_joined (knows c.self.inside.pass) (knows c.other.inside.pass) (knows c.join.new.pass) c.self.inside.kept.items c.other.inside.kept.items (hand_actor c.self.inside.hand) (hand_actor c.other.inside.hand)
    c.self.inside.stripes.items c.other.inside.stripes.items c.join.ensures.knows c.join.ensures.learns mine.1 theirs.1))) in
    (units, rows)
