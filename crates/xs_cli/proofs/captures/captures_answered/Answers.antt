use Rattle.xs_cli.proofs.CapturedHalts.{capture_answered}
use Rattle.xs_cli.proofs.captures.captures_answered.Goals as goal

pub returns : goal.returns
returns c = capture_answered
