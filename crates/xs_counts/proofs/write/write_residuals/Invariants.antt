use Rattle.std.proofs.Common.{◌≡◌, ◌+◌, ◌-◌, ◌≤◌, ◌++◌, sum_by}
use Rattle.std.specs.List.{flat_map, range_with_len}
use Rattle.xs_spelling.specs.Written.{members_of}
use Rattle.xs_counts.specs.Known.{counted_line, residual_bits_of, residual_size}
use Rattle.xs_counts.proofs.write.write_residuals.Given as goal

abbrev pub invariant-pairs : goal.invariant-pairs
invariant-pairs l = record {
  bits : l.initial.out.bits ++ flat_map (residual_bits_of (counted_line l.counts l.predictor l.mode)) (members_of (counted_line l.counts l.predictor l.mode) l.significance)
      ≡ l.out.bits ++ flat_map (residual_bits_of (counted_line l.counts l.predictor l.mode)) (range_with_len l.group (l.end - l.group));
  spare : l.initial.out.spare + sum_by (residual_size (counted_line l.counts l.predictor l.mode)) (range_with_len l.group (l.end - l.group))
      ≤ l.out.spare + sum_by (residual_size (counted_line l.counts l.predictor l.mode)) (members_of (counted_line l.counts l.predictor l.mode) l.significance);
  within : l.group ≤ l.end;
}

abbrev pub decreases-pairs : goal.decreases-pairs
decreases-pairs l = l.end - l.group
