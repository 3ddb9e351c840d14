use Rattle.std.proofs.Common.{◌≡◌, ◌≤◌, length}
use Rattle.xs_picture.specs.StreamRead.{AreSlicesRead}
use Rattle.xs_picture.proofs.decode.reader.read_slices.Given as goal

abbrev pub invariant-slices : goal.invariant-slices
invariant-slices l = record {
  header : l.coefs.header ≡ l.fn.header;
  within : l.place ≤ length l.bytes;
  read : AreSlicesRead l.fn.header l.bytes l.start l.slice l.coefs.slices l.place;
}
