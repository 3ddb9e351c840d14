use Rattle.std.proofs.Common.{◌≡◌, ℕ, ◌<◌, length, slice_index_or}
use Rattle.xs_sizes.specs.Lengths.{length_of}
use Rattle.xs_sizes.proofs.lengths.lengths.Given as goal

abbrev pub invariant-cuts : goal.invariant-cuts
invariant-cuts l = record { size : length l.bits ≡ 16; done : (j : ℕ) → j < l.t → slice_index_or l.bits j 0 ≡ length_of l.above l.planes j }
