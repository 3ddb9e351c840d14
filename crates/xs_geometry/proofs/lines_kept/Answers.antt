use Rattle.xs_geometry.proofs.WrittenRows as written
use Rattle.xs_geometry.proofs.lines_kept.Goals as goal

pub returns : goal.returns
returns c = written.lines_kept
