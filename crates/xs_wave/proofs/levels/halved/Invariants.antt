use Rattle.std.proofs.Common.{◌≡◌, ◌≤◌}
use Rattle.xs_signal.specs.Wavelet.{low_count_at}
use Rattle.xs_wave.proofs.levels.halved.Given as goal

abbrev pub invariant-loop : goal.invariant-loop
invariant-loop l = record {
  value : l.left ≡ low_count_at l.size l.counter;
  most : l.left ≤ 8192;
}
