use Rattle.std.proofs.Common.{◌≡◌, ◌*◌, length, take}
use Rattle.std.specs.Int.{to_le_bytes, w16}
use Rattle.std.specs.List.{flat_map}
use Rattle.xs_samples.proofs.raw.fill_pairs.Given as goal

abbrev pub invariant-filling : goal.invariant-filling
invariant-filling l = record {
  size : length l.bytes ≡ length l.row * 2;
  done : take (2 * l.column) l.bytes ≡ flat_map (to_le_bytes w16) (take l.column l.row);
}
