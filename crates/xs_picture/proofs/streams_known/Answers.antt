use Rattle.xs_picture.proofs.Known.{streams_known}
use Rattle.xs_picture.proofs.streams_known.Goals as goal

pub returns : goal.returns
returns c = streams_known
