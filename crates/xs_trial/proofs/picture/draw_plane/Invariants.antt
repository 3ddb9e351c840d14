use Rattle.std.proofs.Common.{◌≡◌}
use Rattle.xs_params.specs.Picture.{plane_first, width_of}
use Rattle.xs_trial.specs.Generator.{state_past}
use Rattle.xs_trial.specs.Steps.{rows_places, with_drawn}
use Rattle.xs_trial.proofs.picture.draw_plane.Given as goal

abbrev pub invariant-rows : goal.invariant-rows
invariant-rows l = record {
  drawn : l.planes ≡ with_drawn l.fn.planes (plane_first l.fn.planes.shape l.component) (rows_places (width_of l.fn.planes.shape l.component) l.row) l.fn.start;
  state : l.state ≡ state_past (rows_places (width_of l.fn.planes.shape l.component) l.row) l.fn.start;
}
