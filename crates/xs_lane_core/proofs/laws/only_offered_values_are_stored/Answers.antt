use Rattle.xs_lane_core.proofs.Offers.{stored_was_offered}
use Rattle.xs_lane_core.proofs.laws.only_offered_values_are_stored.Goals as goal

pub returns : goal.returns
returns c = stored_was_offered
