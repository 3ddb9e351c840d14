use Rattle.xs_geometry.proofs.LentRows as rows
use Rattle.xs_geometry.proofs.row_lent.Goals as goal

pub returns : goal.returns
returns c = rows.row_lent
