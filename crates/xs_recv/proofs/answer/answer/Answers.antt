use Rattle.std.proofs.Common.{List, sym, subst}
use Rattle.xs_lane_core.specs.Machine.{Actor}
use Rattle.xs_stored.specs.Stored.{held_in}
use Rattle.xs_handover.specs.Blocks.{Carried}
use Rattle.xs_handover.specs.Passes.{actor}
use Rattle.xs_recv.specs.declared.activity.MadeStripe.{MadeStripe}
use Rattle.xs_recv.specs.Received.{IsSynthesised}
use Rattle.xs_recv.proofs.Finished.{IsEnd, answered, filling}
use Rattle.xs_recv.proofs.answer.answer.Goals as goal

pub received_of-requires : goal.received_of-requires
received_of-requires c =
    filling (held_in c.args.ended.board.actor.stored) (actor c.finish-finished.new.finishing.stripes.hand) c.close-stripes.result.1.items c.finish-finished.result
    (subst (λ (l : List MadeStripe). IsEnd (held_in c.args.ended.board.actor.stored) (actor c.finish-finished.new.finishing.stripes.hand) l c.finish-finished.result) (sym c.close-stripes.ensures.made) c.finish-finished.ensures.finished)
    c.close-stripes.ensures.done c.close-stripes.ensures.decoded

pub returns-clause-received : goal.returns-clause-received
returns-clause-received c =
    (answered (held_in c.args.ended.board.actor.stored) (actor c.finish-finished.new.finishing.stripes.hand) c.close-stripes.result.1.items c.finish-finished.result c.in_ok-received.received
    (subst (λ (l : List MadeStripe). IsEnd (held_in c.args.ended.board.actor.stored) (actor c.finish-finished.new.finishing.stripes.hand) l c.finish-finished.result) (sym c.close-stripes.ensures.made) c.finish-finished.ensures.finished)
    c.in_ok-received.ensures c.close-stripes.ensures.done c.close-stripes.ensures.decoded).0

pub returns-clause-synthesised : goal.returns-clause-synthesised
returns-clause-synthesised c = subst (λ (z : Actor Carried). IsSynthesised (held_in c.args.ended.board.actor.stored) c.in_ok-received.received z) (sym c.close-stripes.ensures.actor)
    (answered (held_in c.args.ended.board.actor.stored) (actor c.finish-finished.new.finishing.stripes.hand) c.close-stripes.result.1.items c.finish-finished.result c.in_ok-received.received
    (subst (λ (l : List MadeStripe). IsEnd (held_in c.args.ended.board.actor.stored) (actor c.finish-finished.new.finishing.stripes.hand) l c.finish-finished.result) (sym c.close-stripes.ensures.made) c.finish-finished.ensures.finished)
    c.in_ok-received.ensures c.close-stripes.ensures.done c.close-stripes.ensures.decoded).1
