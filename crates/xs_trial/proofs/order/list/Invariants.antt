use Rattle.std.proofs.Common.{◌≡◌, ◌++◌}
use Rattle.xs_lists.specs.Spelling.{upto}
use Rattle.xs_trial.proofs.order.list.Given as goal

abbrev pub invariant-listing : goal.invariant-listing
invariant-listing l = record {
  listed : l.entries.items ≡ l.fn.entries.items ++ upto l.number;
}
