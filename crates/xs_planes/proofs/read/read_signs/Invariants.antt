use Rattle.std.proofs.Common.{◌≡◌, ◌+◌, ◌≤◌, length}
use Rattle.xs_bits.specs.Reading.{left}
use Rattle.xs_spelling.specs.Sizes.{numbered}
use Rattle.xs_spelling.specs.Reading.{sign_place, with_signs}
use Rattle.xs_lists.proofs.Puts.{put_to}
use Rattle.xs_planes.proofs.read.read_signs.Given as goal

abbrev pub invariant-columns : goal.invariant-columns
invariant-columns l = record {
  values : l.into ≡ put_to ((with_signs (numbered l.t l.counts l.initial.into) (left l.initial.input)).value) l.initial.into l.column;
  place : l.input.place ≡ l.initial.input.place + sign_place (numbered l.t l.counts l.initial.into) l.column;
  enough : sign_place (numbered l.t l.counts l.initial.into) l.column ≤ length (left l.initial.input);
  same : l.input.bits ≡ l.initial.input.bits;
}
