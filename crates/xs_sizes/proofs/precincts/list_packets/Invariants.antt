use Rattle.std.proofs.Common.{◌≡◌, ℕ, ◌<◌, length, slice_index_or}
use Rattle.xs_geometry.specs.Places.{packet_at}
use Rattle.xs_sizes.specs.declared.precincts.PacketBands.{PacketBands}
use Rattle.xs_sizes.specs.Precincts.{IsPacketAt}
use Rattle.xs_sizes.proofs.precincts.list_packets.Given as goal

abbrev pub invariant-packets : goal.invariant-packets
invariant-packets l = record {
  count : length l.packets.items ≡ l.number;
  each : (number : ℕ) (none : PacketBands) → number < length l.packets.items → IsPacketAt l.geometry (packet_at l.geometry l.precinct number) (slice_index_or l.packets.items number none);
}
