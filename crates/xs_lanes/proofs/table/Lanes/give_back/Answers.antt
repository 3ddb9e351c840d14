use Rattle.std.proofs.Common.{rules, arith, []}
use Rattle.xs_lanes.specs.Filing.{placing}
use Rattle.xs_lanes.proofs.Draws.{gives_back}
use Rattle.xs_lanes.proofs.table.Lanes.give_back.Goals as goal

pub load-requires : goal.load-requires
load-requires g c = let words = c.args.self.now.has_words in let slots = c.args.self.now.has_slots in let lane = c.requires.lane in let at = c.lane_word.ensures in let owes = c.requires.owes in (
  search rules,
  omega arith,
  gives_back (placing g.T.Placed.lane_of g.T.Placed.slot_of g.T.Placed.closes_of) _ _ _ _ c.args.lane owes.0 [] (omega arith) owes.1 owes.2 owes.3,
)
