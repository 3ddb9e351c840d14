use Rattle.xs_board.specs.Passes.{actor, knows}
use Rattle.xs_handover.specs.Passes.{actor as hand_actor}
use Rattle.xs_recv.proofs.Keeping.{keeps_none}
use Rattle.xs_recv.proofs.Rows.{rows_none}
use Rattle.xs_recv.proofs.activity.Activity.new.Goals as goal

pub invariant_of-result : goal.invariant_of-result
invariant_of-result c = λ sated. (
  keeps_none (actor c.args.passes.pass).got c.new.result.items c.requires.pass.got c.new.ensures.items,
  rows_none (knows c.args.passes.pass) c.new.result.items (hand_actor c.args.passes.hand) c.new-2.result.items c.requires.hand.stored c.requires.hand.got c.new.ensures.items c.new-2.ensures.items,
)
