use Rattle.std.proofs.Common.{◌≡◌, take, map}
use Rattle.xs_lists.specs.Spelling.{upto}
use Rattle.xs_signal.specs.Lines.{entries_of}
use Rattle.xs_rate.specs.Content.{planes_of}
use Rattle.xs_groups.proofs.count_rest.Given as goal

abbrev pub invariant-groups : goal.invariant-groups
invariant-groups l = record {
  done : take l.group l.planes ≡ map (planes_of (entries_of l.row)) (upto l.group);
}
