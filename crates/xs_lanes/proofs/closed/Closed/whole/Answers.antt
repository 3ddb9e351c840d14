use Rattle.std.proofs.Common.{nat_eq, MatchBool, ap, subst}
use Rattle.std.specs.Mem.Slots.{slots_items}
use Rattle.xs_lane_core.specs.Machine.{Actor}
use Rattle.xs_lanes.specs.Filing.{placing}
use Rattle.xs_lanes.specs.Knowing.{IsWhole}
use Rattle.xs_lanes.specs.Settled.{ClosedLanes}
use Rattle.xs_lanes.proofs.Ends.{whole_is}
use Rattle.xs_lanes.proofs.closed.Closed.whole.Goals as goal

pub returns-clause-whole : goal.returns-clause-whole
returns-clause-whole g c = subst (λ (v : Actor g.row.T.Denot). MatchBool (nat_eq c.word.result 255) (IsWhole (placing g.T.Placed.lane_of g.T.Placed.slot_of g.T.Placed.closes_of) c.args.lane v) (¬ IsWhole (placing g.T.Placed.lane_of g.T.Placed.slot_of g.T.Placed.closes_of) c.args.lane v)) (ap (λ (z : ClosedLanes g.row.T.Denot). z.actor) c.self.view_is)
    (whole_is (placing g.T.Placed.lane_of g.T.Placed.slot_of g.T.Placed.closes_of) (slots_items c.self.inside.table.words) c.self.inside.last.value.me.0 c.args.lane c.lane_word.result c.word.result c.self.invariant.settled c.lane_word.ensures c.word.ensures)
