use Rattle.std.proofs.Common.{◌≡◌, drop}
use Rattle.xs_params.specs.Picture.{plane_first, row_first}
use Rattle.xs_trial.specs.Comparison.{compared}
use Rattle.xs_trial.proofs.comparison.compare_planes.Given as goal

abbrev pub invariant-rows : goal.invariant-rows
invariant-rows l = record {
  rest : compared l.found (drop (row_first l.picture.shape l.component l.row) l.picture.samples) (drop (row_first l.picture.shape l.component l.row) l.other.samples)
      ≡ compared l.fn.before (drop (plane_first l.picture.shape l.component) l.picture.samples) (drop (plane_first l.picture.shape l.component) l.other.samples);
}
