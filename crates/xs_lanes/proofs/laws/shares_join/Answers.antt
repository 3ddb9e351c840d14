use Rattle.xs_lanes.proofs.Gathering.{splits_part, first_rest, joins_rest, rest_alone, gathered_alone}
use Rattle.xs_lanes.proofs.laws.shares_join.Goals as goal

pub returns : goal.returns
returns g c = record { split = splits_part; first = first_rest; join = joins_rest; whole = rest_alone; gathered = gathered_alone }
