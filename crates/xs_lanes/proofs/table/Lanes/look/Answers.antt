use Rattle.std.proofs.Common.{rules, arith, ap, ◌∙◌}
use Rattle.xs_lane_core.specs.Machine.{Actor}
use Rattle.xs_lane_core.specs.Steps.{is_free}
use Rattle.xs_lanes.specs.Filing.{placing}
use Rattle.xs_lanes.proofs.Exactly.{look_exactly}
use Rattle.xs_lanes.proofs.Steps.{looks, seen_free}
use Rattle.xs_lanes.proofs.table.Lanes.look.Goals as goal

pub load-requires : goal.load-requires
load-requires g c = let words = c.args.self.now.has_words in let slots = c.args.self.now.has_slots in let lane = c.requires.lane in let at = c.lane_word.ensures in (
  search rules,
  omega arith,
  looks (placing g.T.Placed.lane_of g.T.Placed.slot_of g.T.Placed.closes_of) _ _ _ c.args.lane _ c.requires.pass.2 (omega arith) c.lane_word.ensures,
)

pub returns-clause-pass : goal.returns-clause-pass
returns-clause-pass g c = let t = c.load.ensures.2 c.args.lane c.lane_word.ensures in (c.load.ensures.0 ∙ c.requires.pass.0, t.3 ∙ c.requires.pass.1, ap (λ (v : Actor g.row.T.Denot). is_free v.stand) t.2 ∙ seen_free _ _ _)

pub returns-clause-choice : goal.returns-clause-choice
returns-clause-choice g c = (c.load.ensures.2 c.args.lane c.lane_word.ensures).1

pub returns-clause-exact : goal.returns-clause-exact
returns-clause-exact g c = look_exactly (placing g.T.Placed.lane_of g.T.Placed.slot_of g.T.Placed.closes_of) _ _ _ _ c.requires.pass.2 c.requires.lane (c.load.ensures.2 c.args.lane c.lane_word.ensures).0

pub returns-clause-share : goal.returns-clause-share
returns-clause-share g c = let t = c.load.ensures.2 c.args.lane c.lane_word.ensures in (ap (λ (v : Actor g.row.T.Denot). v.parts) t.2, ap (λ (v : Actor g.row.T.Denot). v.halved) t.2)
