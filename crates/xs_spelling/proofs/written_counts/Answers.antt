use Rattle.xs_spelling.proofs.Flags as written
use Rattle.xs_spelling.proofs.written_counts.Goals as goal

pub returns : goal.returns
returns c = written.written_counts
