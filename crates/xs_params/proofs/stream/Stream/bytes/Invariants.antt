use Rattle.std.proofs.Common.{◌≡◌, ◌++◌, take}
use Rattle.std.specs.List.{concat}
use Rattle.xs_params.proofs.stream.Stream.bytes.Given as goal

abbrev pub invariant-joining : goal.invariant-joining
invariant-joining l = record {
  items : l.slice-items ≡ l.self.slices;
  joined : l.bytes ≡ l.self.header ++ concat (take l.slice-index l.slice-items);
}
