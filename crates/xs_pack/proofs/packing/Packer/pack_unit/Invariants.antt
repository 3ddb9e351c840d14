use Rattle.std.proofs.Common.{◌≡◌, ◌++◌, map}
use Rattle.xs_lists.specs.Spelling.{upto}
use Rattle.xs_pack.specs.Datagrams.{datagram}
use Rattle.xs_pack.specs.Packing.{sent_of}
use Rattle.xs_pack.proofs.packing.Packer.pack_unit.Given as goal

abbrev pub invariant-cutting : goal.invariant-cutting
invariant-cutting l = l.packets.items ≡ l.initial.packets.items ++ map (datagram l.self.settings.now (sent_of l.self l.unit l.number)) (upto l.piece)
