use Rattle.std.proofs.Common.{◌≡◌, length, take}
use Rattle.xs_params.proofs.raw.fill_bytes.Given as goal

abbrev pub invariant-filling : goal.invariant-filling
invariant-filling l = record {
  size : length l.row ≡ length l.bytes;
  done : take l.column l.row ≡ take l.column l.bytes;
}
