use Rattle.std.proofs.Common.{sym, subst}
use Rattle.std.specs.Mem.Slots.{slots_items}
use Rattle.xs_lanes.specs.Filing.{placing}
use Rattle.xs_lanes.specs.Settled.{IsEnd}
use Rattle.xs_lanes.proofs.Ends.{settles, ends}
use Rattle.xs_lanes.proofs.table.Lanes.close.Goals as goal

pub invariant_of-result-2 : goal.invariant_of-result-2
invariant_of-result-2 g c = subst (λ p. IsEnd (placing g.T.Placed.lane_of g.T.Placed.slot_of g.T.Placed.closes_of) (slots_items c.close_with.result.words) p.me.0) (sym c.of-last.ensures) record {
  settled = settles (placing g.T.Placed.lane_of g.T.Placed.slot_of g.T.Placed.closes_of) _ _ _ _ c.requires.pass.2 c.requires.alone c.close_with.ensures.values.2;
  done = ends (placing g.T.Placed.lane_of g.T.Placed.slot_of g.T.Placed.closes_of) _ _ _ _ c.requires.pass.2 c.requires.alone c.close_with.ensures.values.2;
}

pub returns-clause-done : goal.returns-clause-done
returns-clause-done g c = ends (placing g.T.Placed.lane_of g.T.Placed.slot_of g.T.Placed.closes_of) _ _ _ _ c.requires.pass.2 c.requires.alone c.close_with.ensures.values.2
