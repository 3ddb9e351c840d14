use Rattle.xs_lane_core.proofs.Gives.{run_gives}
use Rattle.xs_lane_core.proofs.laws.later_steps_change_no_claim.Goals as goal

pub returns : goal.returns
returns c = run_gives
