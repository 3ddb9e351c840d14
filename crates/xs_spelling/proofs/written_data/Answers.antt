use Rattle.xs_spelling.proofs.Written as written
use Rattle.xs_spelling.proofs.written_data.Goals as goal

pub returns : goal.returns
returns c = written.data_written
