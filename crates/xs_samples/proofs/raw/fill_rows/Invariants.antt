use Rattle.xs_samples.proofs.RowRanges.{RowsDone}
use Rattle.xs_samples.proofs.raw.fill_rows.Given as goal

abbrev pub invariant-rows : goal.invariant-rows
invariant-rows l = RowsDone l.planes l.rows l.row l.bytes
