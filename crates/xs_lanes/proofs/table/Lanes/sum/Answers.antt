use Rattle.std.proofs.Common.{rules, arith, ap, ◌∙◌}
use Rattle.xs_lane_core.specs.Machine.{Actor}
use Rattle.xs_lanes.specs.Filing.{placing}
use Rattle.xs_lanes.proofs.Summed.{sums_up}
use Rattle.xs_lanes.proofs.Tells.{sum_tells}
use Rattle.xs_lanes.proofs.table.Lanes.sum.Goals as goal

pub fetch_or-before-requires : goal.fetch_or-before-requires
fetch_or-before-requires g c = let words = c.args.self.now.has_words in let slots = c.args.self.now.has_slots in let lane = c.requires.lane in let at = c.lane_word.ensures in (
  search rules,
  omega arith,
  sums_up (placing g.T.Placed.lane_of g.T.Placed.slot_of g.T.Placed.closes_of) _ _ _ c.args.lane c.args.words _ (ap (λ (v : Actor g.row.T.Denot). v.stand) c.requires.owes.2) (omega arith) c.lane_word.ensures,
)

pub returns-clause-same : goal.returns-clause-same
returns-clause-same g c = (c.fetch_or-before.ensures.0, (c.fetch_or-before.ensures.2 c.args.lane c.args.words c.requires.owes.1 c.requires.owes.0 c.requires.owes.2).2 ∙ c.requires.pass.1)

pub returns-clause-summed : goal.returns-clause-summed
returns-clause-summed g c = sum_tells (placing g.T.Placed.lane_of g.T.Placed.slot_of g.T.Placed.closes_of) 0 c.lane_word.result c.fetch_or-before.result c.args.lane c.args.words _ _ c.makes_whole.result c.makes_whole.ensures c.fetch_or-before.ensures.2
