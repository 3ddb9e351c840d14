use Rattle.xs_markers.proofs.UnitsKnown.{headers_known}
use Rattle.xs_markers.proofs.laws.headers_known.Goals as goal

pub returns : goal.returns
returns c = headers_known
