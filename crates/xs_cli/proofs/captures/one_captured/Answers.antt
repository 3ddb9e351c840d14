use Rattle.xs_cli.proofs.CapturedOne as proved
use Rattle.xs_cli.proofs.captures.one_captured.Goals as goal

pub returns : goal.returns
returns c = proved.one_captured
