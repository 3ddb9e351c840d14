use Rattle.std.proofs.Common.{◌≡◌, length, take}
use Rattle.xs_samples.proofs.raw.fill_bytes.Given as goal

abbrev pub invariant-filling : goal.invariant-filling
invariant-filling l = record {
  size : length l.bytes ≡ length l.row;
  done : take l.column l.bytes ≡ take l.column l.row;
}
