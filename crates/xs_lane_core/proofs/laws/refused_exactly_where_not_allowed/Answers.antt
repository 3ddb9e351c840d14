use Rattle.xs_lane_core.proofs.Refusals.{step_exactly}
use Rattle.xs_lane_core.proofs.laws.refused_exactly_where_not_allowed.Goals as goal

pub returns : goal.returns
returns c = step_exactly
