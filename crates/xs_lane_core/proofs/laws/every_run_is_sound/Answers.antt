use Rattle.xs_lane_core.proofs.Keeps.{every_run_sound}
use Rattle.xs_lane_core.proofs.laws.every_run_is_sound.Goals as goal

pub returns : goal.returns
returns c = every_run_sound
