use Rattle.xs_capture.proofs.laws.one_selection.Goals as goal
use Rattle.xs_capture.proofs.Selections as proved

pub returns : goal.returns
returns c = proved.one_selection
