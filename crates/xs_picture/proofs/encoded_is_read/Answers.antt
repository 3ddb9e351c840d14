use Rattle.xs_picture.proofs.ReadAgain.{encoded_is_read}
use Rattle.xs_picture.proofs.encoded_is_read.Goals as goal

pub returns : goal.returns
returns c = encoded_is_read
