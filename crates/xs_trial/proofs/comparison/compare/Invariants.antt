use Rattle.std.proofs.Common.{◌≡◌, drop}
use Rattle.xs_params.specs.Picture.{plane_first}
use Rattle.xs_trial.specs.Comparison.{compared, comparison_of}
use Rattle.xs_trial.proofs.comparison.compare.Given as goal

abbrev pub invariant-components : goal.invariant-components
invariant-components l = record {
  rest : compared l.found (drop (plane_first l.picture.shape l.component) l.picture.samples) (drop (plane_first l.picture.shape l.component) l.other.samples)
      ≡ comparison_of l.picture.samples l.other.samples;
}
