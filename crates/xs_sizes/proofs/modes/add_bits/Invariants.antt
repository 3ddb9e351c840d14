use Rattle.std.proofs.Common.{◌≡◌, ℕ, ◌+◌, ◌^◌, ◌<◌, ◌≤◌, slice_index_or}
use Rattle.xs_sizes.proofs.modes.add_bits.Given as goal

abbrev pub invariant-cuts : goal.invariant-cuts
invariant-cuts l = record {
  done : (j : ℕ) → j < l.t → slice_index_or l.bits j 0 ≡ slice_index_or l.initial.bits j 0 + (l.flags + slice_index_or l.counts j 0);
  few : (j : ℕ) → j < l.t → slice_index_or l.bits j 0 ≤ slice_index_or l.initial.bits j 0 + 2 ^ 17;
  rest : (j : ℕ) → l.t ≤ j → slice_index_or l.bits j 0 ≡ slice_index_or l.initial.bits j 0;
}
