use Rattle.std.proofs.Common.{◌≡◌}
use Rattle.xs_params.specs.Picture.{row_first}
use Rattle.xs_samples.specs.Raw.{HasRead}
use Rattle.xs_samples.proofs.raw.read_plane.Given as goal

abbrev pub invariant-rows : goal.invariant-rows
invariant-rows l = record {
  shape : l.planes.shape ≡ l.shape;
  read : HasRead l.planes (row_first l.shape l.component l.row) l.bytes;
}
