use Rattle.std.proofs.Common.{nat_lt, ap, ◌∙◌}
use Rattle.std.specs.Mem.Slots.{slots_items}
use Rattle.xs_lanes.specs.Filing.{placing}
use Rattle.xs_lanes.specs.Claiming.{got_in}
use Rattle.xs_lanes.specs.Settled.{ClosedLanes}
use Rattle.xs_lanes.proofs.Ends.{claimed_is}
use Rattle.xs_lanes.proofs.closed.Closed.claimed.Goals as goal

pub returns : goal.returns
returns g c = claimed_is (placing g.T.Placed.lane_of g.T.Placed.slot_of g.T.Placed.closes_of) (slots_items c.self.inside.table.words) c.self.inside.last.value.me.0 c.args.lane c.lane_word.result c.word.result c.self.invariant.settled c.lane_word.ensures c.word.ensures
    ∙ ap (λ (z : ClosedLanes g.row.T.Denot). nat_lt 0 (got_in (placing g.T.Placed.lane_of g.T.Placed.slot_of g.T.Placed.closes_of) c.args.lane z.actor)) c.self.view_is
