use Rattle.std.proofs.Common.{◌≡◌, ◌+◌, ◌-◌, ◌≤◌, ◌++◌, length}
use Rattle.std.specs.List.{flat_map, range_with_len}
use Rattle.xs_precinct_write.specs.Parts.{band_part, part_bits}
use Rattle.xs_precinct_write.proofs.write.packet.write_part.Given as goal

abbrev pub invariant-bands : goal.invariant-bands
invariant-bands l = record {
  whole : l.initial.out.bits ++ part_bits l.packet l.part ≡ l.out.bits ++ flat_map (band_part l.packet l.part) (range_with_len l.band (l.packet.end - l.band));
  spare : l.initial.out.spare + length (flat_map (band_part l.packet l.part) (range_with_len l.band (l.packet.end - l.band))) ≤ l.out.spare + length (part_bits l.packet l.part);
}
