use Rattle.std.proofs.Common.{◌≡◌, length}
use Rattle.xs_params.specs.Picture.{row_first}
use Rattle.xs_samples.specs.Raw.{HasWritten}
use Rattle.xs_samples.proofs.raw.write_plane.Given as goal

abbrev pub invariant-rows : goal.invariant-rows
invariant-rows l = record {
  size : length l.bytes ≡ length l.initial.bytes;
  written : HasWritten l.planes (row_first l.planes.shape l.component l.row) l.bytes;
}
