use Rattle.std.proofs.Common.{◌≡◌, ◌-◌, [], ◌≤◌}
use Rattle.xs_sizes.proofs.Coded.{AreSoFar}
use Rattle.xs_sizes.proofs.lengths.member_bits.Given as goal

abbrev pub invariant-groups : goal.invariant-groups
invariant-groups l = record {
  from : l.fn.at.0 ≤ l.group;
  count : l.bits.count ≡ l.fn.at.1 - l.fn.at.0;
  plain : AreSoFar [] l.planes l.fn.at.0 l.group l.fn.at.1 l.bits.plain;
  predicted : AreSoFar l.above l.planes l.fn.at.0 l.group l.fn.at.1 l.bits.predicted;
}
