use Rattle.xs_cli.proofs.FileSent as proved
use Rattle.xs_cli.proofs.captures.file_is_written.Goals as goal

pub returns : goal.returns
returns c = proved.file_is_written
