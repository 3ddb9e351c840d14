use Rattle.xs_cli.proofs.CapturedSent as proved
use Rattle.xs_cli.proofs.captures.sent_is_written.Goals as goal

pub returns : goal.returns
returns c = proved.sent_is_written
