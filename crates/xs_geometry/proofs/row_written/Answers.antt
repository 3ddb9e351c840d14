use Rattle.xs_geometry.proofs.WrittenRows as written
use Rattle.xs_geometry.proofs.row_written.Goals as goal

pub returns : goal.returns
returns c = written.row_written
