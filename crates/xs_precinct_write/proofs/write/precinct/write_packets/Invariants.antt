use Rattle.std.proofs.Common.{◌≡◌, ◌%◌, ◌++◌, length, drop}
use Rattle.std.specs.List.{flat_map}
use Rattle.xs_lists.specs.Bits.{bits_of_bytes}
use Rattle.xs_params.specs.Geometry.{packets_of}
use Rattle.xs_grammar.specs.Coded.{packet_bytes}
use Rattle.xs_precinct_write.specs.Sent.{AreLinesAlike, content_in, modes_in}
use Rattle.xs_precinct_write.proofs.write.precinct.write_packets.Given as goal

abbrev pub invariant-packets : goal.invariant-packets
invariant-packets l = record {
  whole : l.initial.out.bits ++ flat_map (λ place. bits_of_bytes (packet_bytes l.at.header.now (content_in l.at) (modes_in l.at l.precinct) place)) (packets_of l.at.header.now l.precinct)
      ≡ l.out.bits ++ flat_map (λ place. bits_of_bytes (packet_bytes l.at.header.now (content_in l.at) (modes_in l.at l.precinct) place)) (drop l.number (packets_of l.at.header.now l.precinct));
  border : length l.out.bits % 8 ≡ 0;
  alike : AreLinesAlike l.initial.lines l.lines;
}
