use Rattle.xs_stored.proofs.WholeUnits.{whole_lanes_are_units}
use Rattle.xs_stored.proofs.whole_lanes_are_units.Goals as goal

pub returns : goal.returns
returns c = whole_lanes_are_units
