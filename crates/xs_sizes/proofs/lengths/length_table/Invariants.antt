use Rattle.std.proofs.Common.{◌≡◌, ℕ, ◌<◌, ◌≤◌, ◌/◌, ◌%◌, [], length, slice_index_or}
use Rattle.xs_sizes.specs.Lengths.{length_of}
use Rattle.xs_sizes.proofs.lengths.length_table.Given as goal

abbrev pub invariant-pairs : goal.invariant-pairs
invariant-pairs l = record {
  count : length l.table.items ≡ l.pair;
  rows : (k t : ℕ) → k < l.pair → t ≤ 15 → slice_index_or (slice_index_or l.table.items k []) t 0 ≡ length_of (k / 16) (k % 16) t;
}
