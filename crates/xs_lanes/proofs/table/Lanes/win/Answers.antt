use Rattle.std.proofs.Common.{rules, arith, ◌∙◌}
use Rattle.xs_lanes.specs.Filing.{placing}
use Rattle.xs_lanes.proofs.Claims.{claims_lane}
use Rattle.xs_lanes.proofs.Tells.{won_tells}
use Rattle.xs_lanes.proofs.table.Lanes.win.Goals as goal

pub swap-found-requires : goal.swap-found-requires
swap-found-requires g c = let words = c.args.self.now.has_words in let slots = c.args.self.now.has_slots in let lane = c.requires.lane in let at = c.lane_word-word.ensures in (
  search rules,
  omega arith,
  claims_lane (placing g.T.Placed.lane_of g.T.Placed.slot_of g.T.Placed.closes_of) _ _ _ c.args.lane _ c.requires.saw (omega arith) c.lane_word-word.ensures,
)

pub returns-clause-same : goal.returns-clause-same
returns-clause-same g c = (c.swap-found.ensures.0, (c.swap-found.ensures.2 c.args.lane c.lane_word-word.ensures).3 ∙ c.requires.pass.1)

pub returns-clause-won : goal.returns-clause-won
returns-clause-won g c = won_tells (placing g.T.Placed.lane_of g.T.Placed.slot_of g.T.Placed.closes_of) 0 c.lane_word-word.result c.swap-found.result c.args.lane _ _ c.lane_word-word.ensures c.swap-found.ensures.2
