use Rattle.std.proofs.Common.{◌≡◌, drop}
use Rattle.xs_trial.specs.Comparison.{compared}
use Rattle.xs_trial.proofs.comparison.compare_rows.Given as goal

abbrev pub invariant-columns : goal.invariant-columns
invariant-columns l = record {
  rest : compared l.found (drop l.column l.row) (drop l.column l.other) ≡ compared l.fn.before l.row l.other;
}
