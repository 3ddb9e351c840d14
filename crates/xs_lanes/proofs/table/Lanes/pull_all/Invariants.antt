use Rattle.std.proofs.Common.{◌≡◌, ◌-◌, [], length}
use Rattle.xs_lanes.specs.Filing.{placing}
use Rattle.xs_lanes.specs.Passes.{view}
use Rattle.xs_lanes.proofs.Runs.{HasPulled}
use Rattle.xs_lanes.proofs.table.Lanes.pull_all.Given as goal

abbrev pub invariant-pulling : goal.invariant-pulling
invariant-pulling g l = record {
  fits : l.pass.table_id ≡ l.self.table.shared.table_id;
  idle : l.pass.me.1 ≡ [];
  pulled : HasPulled (placing g.T.Placed.lane_of g.T.Placed.slot_of g.T.Placed.closes_of) (view l.initial.pass) l.lane l.into.items (view l.pass);
}

abbrev pub decreases-pulling : goal.decreases-pulling
decreases-pulling g l = 512 - length l.into.items
