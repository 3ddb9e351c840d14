use Rattle.std.proofs.Common.{[]}
use Rattle.xs_sizes.proofs.Coded.{IsSummed}
use Rattle.xs_sizes.proofs.lengths.count_sizes.Given as goal

abbrev pub invariant-groups : goal.invariant-groups
invariant-groups l = record {
  plain : IsSummed [] l.planes l.significance l.plain.all l.plain.kept;
  predicted : IsSummed l.above l.planes l.significance l.predicted.all l.predicted.kept;
}
