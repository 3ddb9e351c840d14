use Rattle.std.proofs.Common.{rules, arith}
use Rattle.xs_lanes.specs.Filing.{placing}
use Rattle.xs_lanes.proofs.Shares.{splits}
use Rattle.xs_lanes.proofs.table.Lanes.split.Goals as goal

pub split_seat-requires : goal.split_seat-requires
split_seat-requires g c = let some_lane = c.args.self.now.has_lane in let words = c.args.self.now.has_words in (
  search rules,
  omega arith,
  splits (placing g.T.Placed.lane_of g.T.Placed.slot_of g.T.Placed.closes_of) _ _ c.requires.pass.2,
)
