use Rattle.xs_precinct.proofs.Rows.{PutSoFar}
use Rattle.xs_precinct.proofs.read.rows.put_rows.Given as goal

abbrev pub invariant-bands : goal.invariant-bands
invariant-bands l = PutSoFar l.kind l.initial.rows l.rows l.bands l.first.band l.first.line l.k
