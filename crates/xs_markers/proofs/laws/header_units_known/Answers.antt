use Rattle.xs_markers.proofs.UnitsKnown.{header_units_known}
use Rattle.xs_markers.proofs.laws.header_units_known.Goals as goal

pub returns : goal.returns
returns c = header_units_known
