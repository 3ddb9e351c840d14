use Rattle.std.proofs.Common.{◌≡◌, replicate}
use Rattle.xs_lane_core.specs.Machine.{empty_lane}
use Rattle.xs_lane_core.proofs.state.empty_lanes.Given as goal

abbrev pub invariant-making : goal.invariant-making
invariant-making l = l.lanes.items ≡ replicate l.counter empty_lane
