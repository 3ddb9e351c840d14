use Rattle.xs_lane_core.proofs.Finds.{whole_stored}
use Rattle.xs_lane_core.proofs.laws.whole_lane_is_stored.Goals as goal

pub returns : goal.returns
returns g c = whole_stored
