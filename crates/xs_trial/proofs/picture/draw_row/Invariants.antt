use Rattle.std.proofs.Common.{◌≡◌}
use Rattle.xs_params.specs.Picture.{row_first}
use Rattle.xs_trial.specs.Generator.{row_places, state_past}
use Rattle.xs_trial.specs.Steps.{with_drawn}
use Rattle.xs_trial.proofs.picture.draw_row.Given as goal

abbrev pub invariant-columns : goal.invariant-columns
invariant-columns l = record {
  drawn : l.planes ≡ with_drawn l.fn.planes (row_first l.fn.planes.shape l.component l.row) (row_places l.column l.row) l.fn.start;
  state : l.state ≡ state_past (row_places l.column l.row) l.fn.start;
}
