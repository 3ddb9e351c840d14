use Rattle.std.proofs.Common.{◌≡◌, ◌+◌, ◌-◌, ◌*◌, ◌^◌, ◌≤◌, length}
use Rattle.std.specs.List.{flat_map, range_with_len}
use Rattle.xs_precinct_write.specs.Parts.{band_part, part_bits}
use Rattle.xs_precinct_write.proofs.write.packet.part_bytes.Given as goal

abbrev pub invariant-bands : goal.invariant-bands
invariant-bands l = record {
  few : l.bits ≤ 2 ^ 17 * (l.band - l.packet.first);
  left : l.bits + length (flat_map (band_part l.packet l.part) (range_with_len l.band (l.packet.end - l.band))) ≡ length (part_bits l.packet l.part);
}
