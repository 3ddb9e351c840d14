use Rattle.std.proofs.Common.{◌≡◌, take}
use Rattle.xs_stored.specs.Stored.{joined_bytes}
use Rattle.xs_board.proofs.units.join_packets.Given as goal

abbrev pub invariant-joining : goal.invariant-joining
invariant-joining l = l.bytes ≡ joined_bytes (take l.packet-index l.packets)
