use Rattle.std.proofs.Common.{◌≡◌, ◌+◌, ◌*◌, ◌≤◌, [], length}
use Rattle.xs_bits.specs.Reading.{left}
use Rattle.xs_spelling.specs.Sizes.{numbered}
use Rattle.xs_spelling.specs.Reading.{group_start, value_in}
use Rattle.xs_lists.proofs.Puts.{put_to}
use Rattle.xs_planes.proofs.Places.{FitTo}
use Rattle.xs_planes.proofs.read.read_data.Given as goal

abbrev pub invariant-groups : goal.invariant-groups
invariant-groups l = record {
  values : l.into ≡ put_to (value_in l.signs_apart (numbered l.t l.counts []) (left l.initial.input)) l.initial.into (4 * l.group);
  fit : FitTo (value_in l.signs_apart (numbered l.t l.counts []) (left l.initial.input)) l.t l.counts l.group;
  place : l.input.place ≡ l.initial.input.place + group_start l.signs_apart (numbered l.t l.counts []) l.group;
  enough : group_start l.signs_apart (numbered l.t l.counts []) l.group ≤ length (left l.initial.input);
  same : l.input.bits ≡ l.initial.input.bits;
}
