use Rattle.std.proofs.Common.{◌≡◌, ◌≤◌, length}
use Rattle.xs_picture.specs.Growing.{IsGrowing, IsGrownOf, next_slice}
use Rattle.xs_picture.proofs.decode.decoder.grow_picture.Given as goal

abbrev pub invariant-slices : goal.invariant-slices
invariant-slices l = record {
  header : l.growing.header ≡ l.fn.header;
  within : l.place ≤ length l.bytes;
  state : IsGrowing l.growing;
  next : next_slice l.growing.waiting ≡ l.slice;
  read : IsGrownOf l.fn.header l.bytes l.start l.slice l.growing l.place;
}
