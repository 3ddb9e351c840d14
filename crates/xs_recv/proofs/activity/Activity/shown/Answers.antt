use Rattle.std.proofs.Common.{ap}
use Rattle.xs_lane_core.specs.Machine.{Actor}
use Rattle.xs_capture.specs.Offer.{Offer}
use Rattle.xs_board.specs.Passes.{actor, knows}
use Rattle.xs_handover.specs.Passes.{actor as hand_actor}
use Rattle.xs_recv.proofs.Keeping.{keeps_same, still_shown}
use Rattle.xs_recv.proofs.Rows.{rows_known}
use Rattle.xs_recv.proofs.activity.Activity.shown.Goals as goal

pub invariant_of-self : goal.invariant_of-self
invariant_of-self c = λ sated. let k = c.self.invariant sated in (
  keeps_same (actor c.self.inside.pass).got (actor c.header.new.pass).got c.self.inside.head c.self.inside.kept.items k.0 (ap (λ (z : Actor Offer). z.got) c.header.ensures.same),
  rows_known (knows c.self.inside.pass) (knows c.header.new.pass) c.self.inside.kept.items (hand_actor c.self.inside.hand) c.self.inside.stripes.items
      (still_shown (knows c.self.inside.pass) (knows c.header.new.pass) c.header.result c.header.ensures.shown) k.1,
)
