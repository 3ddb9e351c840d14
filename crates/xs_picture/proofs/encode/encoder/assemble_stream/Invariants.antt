use Rattle.std.proofs.Common.{◌≡◌}
use Rattle.xs_picture.proofs.encode.encoder.assemble_stream.Given as goal

abbrev pub invariant-joining : goal.invariant-joining
invariant-joining l = record {
  slices : l.stream.slices ≡ l.yielded;
  header : l.stream.header ≡ l.initial.stream.header;
}
