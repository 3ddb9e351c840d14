use Rattle.xs_lane_core.proofs.Meanings.{home_is}
use Rattle.xs_lane_core.proofs.laws.home_is_what_is_stored.Goals as goal

pub returns : goal.returns
returns g c = home_is
