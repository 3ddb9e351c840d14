use Rattle.std.proofs.Common.{◌≡◌}
use Rattle.xs_params.specs.Picture.{plane_first}
use Rattle.xs_samples.specs.Raw.{HasRead}
use Rattle.xs_samples.proofs.raw.read_picture.Given as goal

abbrev pub invariant-components : goal.invariant-components
invariant-components l = record {
  shape : l.planes.shape ≡ l.fn.shape;
  read : HasRead l.planes (plane_first l.fn.shape l.component) l.bytes;
}
