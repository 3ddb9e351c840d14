use Rattle.std.proofs.Common.{ℕ, ◌-◌, ◌*◌, ◌^◌, ◌≤◌, List}
use Rattle.std.specs.List.{range_with_len}
use Rattle.xs_layout.specs.Geometry.{PacketPlace}
use Rattle.xs_layout.specs.declared.Weight.{Weight}
use Rattle.xs_params.specs.Geometry.{packet_bands}
use Rattle.xs_geometry.specs.SliceLines.{BandLines, rows_held}
use Rattle.xs_sizes.specs.Measured.{IsPacketOf, header_in}
use Rattle.xs_sizes.proofs.PacketSizes.{MakeUp}
use Rattle.xs_sizes.proofs.packets.packet_bits.Given as goal

abbrev pub invariant-bands : goal.invariant-bands
invariant-bands l = record {
  from : l.packet.first ≤ l.band;
  flags : l.bits.flags ≤ 2 ^ 32 * (l.band - l.packet.first);
  counts : l.bits.counts ≤ 2 ^ 32 * (l.band - l.packet.first);
  numbers : l.bits.numbers ≤ 2 ^ 32 * (l.band - l.packet.first);
  signs : l.bits.signs ≤ 2 ^ 32 * (l.band - l.packet.first);
  left : (slice : ℕ) (bands : List BandLines) (weights : List Weight) (precinct : ℕ) (place : PacketPlace) → IsPacketOf slice bands precinct place l.fn.coding l.fn.kept l.packet
      → MakeUp (header_in l.fn.coding weights) (rows_held bands) l.fn.cuts precinct l.packet.line (range_with_len l.band (l.packet.end - l.band)) (packet_bands l.fn.coding.geometry.now place) l.bits;
}
