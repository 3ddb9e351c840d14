use Rattle.xs_geometry.proofs.WrittenRows as written
use Rattle.xs_geometry.proofs.geometry_kept.Goals as goal

pub returns : goal.returns
returns c = written.geometry_kept
