use Rattle.std.proofs.Common.{◌≡◌, ◌+◌}
use Rattle.xs_pack.specs.Packing.{datagrams_below}
use Rattle.xs_pack.proofs.packing.pack.Given as goal

abbrev pub invariant-packing : goal.invariant-packing
invariant-packing l = l.packets.items ≡ datagrams_below l.packer l.stream (l.slice + 1)
