use Rattle.xs_cli.proofs.FileOne as proved
use Rattle.xs_cli.proofs.captures.one_file.Goals as goal

pub returns : goal.returns
returns c = proved.one_file
