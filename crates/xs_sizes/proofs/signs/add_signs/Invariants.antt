use Rattle.std.proofs.Common.{◌≡◌, ℕ, ◌+◌, ◌<◌, ◌≤◌, slice_index_or}
use Rattle.xs_sizes.proofs.signs.add_signs.Given as goal

abbrev pub invariant-cuts : goal.invariant-cuts
invariant-cuts l = record {
  done : (j : ℕ) → j < l.t → slice_index_or l.sizes j 0 ≡ slice_index_or l.initial.sizes j 0 + slice_index_or l.signs j 0;
  rest : (j : ℕ) → l.t ≤ j → slice_index_or l.sizes j 0 ≡ slice_index_or l.initial.sizes j 0;
}
