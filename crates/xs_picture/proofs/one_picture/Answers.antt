use Rattle.xs_picture.proofs.OnePicture.{one_picture}
use Rattle.xs_picture.proofs.one_picture.Goals as goal

pub returns : goal.returns
returns c = one_picture
