-- The lines of a packet, and the bits and bytes of its parts: 'Slice, precinct and packet'.
use Rattle.std.specs.Prelude.{ℕ, ◌-◌, ◌^◌, ◌<◌, ◌≤◌, Bool, false, List, ◌++◌, length, slice_index_or}
use Rattle.std.specs.List.{flat_map, range_with_len}
use Rattle.xs_lists.specs.Packing.{packed}
use Rattle.xs_grammar.specs.Coded.{field_bytes}
use Rattle.xs_grammar.specs.Packet.{packet_fields}
use Rattle.xs_precinct_write.specs.Outgoing.{Outgoing, no_outgoing, HasNumbers, own_flags, own_counts, own_data, own_signs}
use Rattle.xs_precinct_write.specs.declared.write.line.LinePart.{LinePart}
use Rattle.xs_precinct_write.specs.declared.write.line.LinePart.TheVariants.{Flags, Counts, Data, Signs}
use Rattle.xs_precinct_write.specs.declared.write.packet.PacketLines.{PacketLines}

-- the bits that a line gives to a part
abbrev pub bits_in_part : LinePart → Bool → Outgoing → List ℕ
bits_in_part Flags apart o = own_flags o
bits_in_part Counts apart o = own_counts o
bits_in_part Data apart o = own_data apart o
bits_in_part Signs apart o = own_signs apart o

-- those of the lines of a packet, one after the other, and their bytes
abbrev pub band_part : PacketLines → LinePart → ℕ → List ℕ
band_part p part band = bits_in_part part p.apart (slice_index_or p.lines.now band no_outgoing)

abbrev pub part_bits : PacketLines → LinePart → List ℕ
part_bits p part = flat_map (band_part p part) (range_with_len p.first (p.end - p.first))

abbrev pub part_bytes : PacketLines → LinePart → List ℕ
part_bytes p part = packed (part_bits p part)

-- the fields of the packet's header, and the packet
abbrev pub head_fields : PacketLines → List (ℕ × ℕ)
head_fields p = packet_fields false false (length (part_bytes p Data)) (length (part_bytes p Counts)) (length (part_bytes p Signs))

abbrev pub packet_out : PacketLines → List ℕ
packet_out p = field_bytes (head_fields p) ++ (part_bytes p Flags ++ (part_bytes p Counts ++ (part_bytes p Data ++ part_bytes p Signs)))

-- the lines are there, with their numbers, and each part is short
pub record ArePacketLines (p : PacketLines) : Type 0 where
  pub there : p.end ≤ length p.lines.now
  pub numbers : (band : ℕ) → p.first ≤ band → band < p.end → HasNumbers (slice_index_or p.lines.now band no_outgoing)
  pub short : (part : LinePart) → length (part_bytes p part) ≤ 2 ^ 20
