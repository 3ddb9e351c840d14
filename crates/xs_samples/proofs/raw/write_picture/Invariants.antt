use Rattle.std.proofs.Common.{◌≡◌, length}
use Rattle.xs_params.specs.Picture.{plane_first, raw_size}
use Rattle.xs_samples.specs.Raw.{HasWritten}
use Rattle.xs_samples.proofs.raw.write_picture.Given as goal

abbrev pub invariant-components : goal.invariant-components
invariant-components l = record {
  size : length l.bytes.items ≡ raw_size l.planes.shape;
  written : HasWritten l.planes (plane_first l.planes.shape l.component) l.bytes.items;
}
