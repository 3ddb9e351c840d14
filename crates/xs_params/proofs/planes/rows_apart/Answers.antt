use Rattle.xs_params.proofs.Areas as areas
use Rattle.xs_params.proofs.planes.rows_apart.Goals as goal

pub returns : goal.returns
returns c = areas.rows_apart
