use Rattle.std.proofs.Common.{◌≡◌, length, take}
use Rattle.xs_params.specs.Picture.{pair_numbers}
use Rattle.xs_params.proofs.raw.fill_pairs.Given as goal

abbrev pub invariant-filling : goal.invariant-filling
invariant-filling l = record {
  size : length l.row ≡ length l.pairs;
  done : take l.column l.row ≡ take l.column (pair_numbers l.pairs);
}
