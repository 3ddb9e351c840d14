use Rattle.xs_capture.proofs.laws.cut_or_whole.Goals as goal
use Rattle.xs_capture.proofs.WholeFrames as proved

pub returns : goal.returns
returns c = proved.cut_or_whole
