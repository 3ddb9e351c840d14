use Rattle.xs_wave.proofs.Flat.{no_rows}
use Rattle.xs_wave.proofs.planes.Plane.empty.Goals as goal

pub returns : goal.returns
returns c = no_rows 0 _
