use Rattle.xs_capture.proofs.laws.timestamps_exist.Goals as goal
use Rattle.xs_capture.proofs.Times as proved

pub returns : goal.returns
returns c = proved.timestamps_exist
