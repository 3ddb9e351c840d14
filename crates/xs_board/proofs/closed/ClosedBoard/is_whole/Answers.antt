use Rattle.std.proofs.Common.{◌≤◌, nat_lt, subst, arith}
use Rattle.xs_lanes.specs.Settled.{ClosedLanes}
use Rattle.xs_capture.specs.Offer.{Offer}
use Rattle.xs_board.proofs.Told.{IsTold, told_by_lane, told_past}
use Rattle.xs_board.proofs.closed.ClosedBoard.is_whole.Goals as goal

pub returns-then-unit-self : goal.returns-then-unit-self
returns-then-unit-self c =
    subst (λ (z : ClosedLanes Offer). IsTold z.actor c.args.unit c.whole.result) c.self.view_is
    (told_by_lane c.self.inside.closed.actor c.self.inside.units c.args.unit c.whole.result c.whole.ensures.done c.self.invariant.1 c.whole.ensures.whole)

pub returns-else-unit-self : goal.returns-else-unit-self
returns-else-unit-self c =
    let past : c.self.inside.units ≤ c.args.unit = omega (arith, c.if-unit-self.false) in
    subst (λ (z : ClosedLanes Offer). IsTold z.actor c.args.unit (nat_lt c.args.unit c.self.inside.units)) c.self.view_is
    (told_past c.self.inside.closed.actor c.self.inside.units c.args.unit c.self.invariant.1 past)
