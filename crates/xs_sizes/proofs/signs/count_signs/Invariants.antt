use Rattle.std.proofs.Common.{◌≡◌, ℕ, ◌+◌, ◌*◌, ◌≤◌, length, slice_index_or}
use Rattle.xs_signal.specs.Lines.{entries_of}
use Rattle.xs_spelling.specs.Sizes.{signs_size}
use Rattle.xs_planes.proofs.Signs.{signs_from}
use Rattle.xs_sizes.specs.Cut.{sent_line}
use Rattle.xs_sizes.proofs.signs.count_signs.Given as goal

abbrev pub invariant-groups : goal.invariant-groups
invariant-groups l = record {
  signs : (t : ℕ) → t ≤ 15 → slice_index_or l.sizes t 0 + length (signs_from (sent_line l.kind (entries_of l.row) (length l.planes) t) (4 * length l.planes) (4 * l.group)) ≡ signs_size (sent_line l.kind (entries_of l.row) (length l.planes) t);
  few : (t : ℕ) → t ≤ 15 → slice_index_or l.sizes t 0 ≤ 4 * l.group;
}
