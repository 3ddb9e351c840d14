use Rattle.xs_cli.proofs.Runs.{starved}
use Rattle.xs_cli.proofs.start.program.Goals as goal

pub returns-in-Err-words_of : goal.returns-in-Err-words_of
returns-in-Err-words_of g c = rw c.in-Ok.is (starved _ _ _ _ _ _ _)
