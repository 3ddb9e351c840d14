use Rattle.xs_markers.proofs.UnitsKnown.{header_read_again}
use Rattle.xs_markers.proofs.laws.header_read_again.Goals as goal

pub returns : goal.returns
returns c = header_read_again
