use Rattle.std.proofs.Common.{nat_lt, ap, ◌∙◌}
use Rattle.std.specs.Mem.Slots.{slots_items}
use Rattle.xs_lanes.specs.Filing.{placing, lane_word}
use Rattle.xs_lanes.specs.Knowing.{stored_at}
use Rattle.xs_lanes.specs.Settled.{ClosedLanes}
use Rattle.xs_lanes.proofs.Ends.{held_is}
use Rattle.xs_lanes.proofs.closed.Closed.held.Goals as goal

pub returns : goal.returns
returns g c = held_is (placing g.T.Placed.lane_of g.T.Placed.slot_of g.T.Placed.closes_of) (slots_items c.self.inside.table.words) c.self.inside.last.value.me.0 c.args.lane c.args.place c.lane_word.result c.own_bit-bit.result c.word.result c.requires.place c.self.invariant.settled
    (c.lane_word.ensures ∙ ap (lane_word c.args.lane) c.word_of.ensures.word) c.own_bit-bit.ensures c.word.ensures
    ∙ ap (λ (z : ClosedLanes g.row.T.Denot). nat_lt 0 (stored_at (placing g.T.Placed.lane_of g.T.Placed.slot_of g.T.Placed.closes_of) c.args.lane c.args.place z.actor)) c.self.view_is
