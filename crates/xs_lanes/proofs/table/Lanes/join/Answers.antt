use Rattle.std.proofs.Common.{rules, arith}
use Rattle.xs_lanes.specs.Filing.{placing}
use Rattle.xs_lanes.proofs.Shares.{joins}
use Rattle.xs_lanes.proofs.table.Lanes.join.Goals as goal

pub join_seat-requires : goal.join_seat-requires
join_seat-requires g c = let some_lane = c.args.self.now.has_lane in let words = c.args.self.now.has_words in (
  search rules,
  search rules,
  search rules,
  omega arith,
  joins (placing g.T.Placed.lane_of g.T.Placed.slot_of g.T.Placed.closes_of) _ _ _ _ c.requires.pass.2 c.requires.other.2,
)
