use Rattle.xs_lanes.proofs.Named.{takes_as_event, comes_home_as_event, sums_as_event, looks_as_event, claims_as_event, pulls_as_event, splits_as_event, joins_as_event}
use Rattle.xs_lanes.proofs.laws.each_step_is_an_event.Goals as goal

pub returns : goal.returns
returns g c = record { take = takes_as_event; home = comes_home_as_event; sum = sums_as_event; look = looks_as_event; claim = claims_as_event; pull = pulls_as_event; split = splits_as_event; join = joins_as_event }
