use Rattle.std.proofs.Common.{◌≡◌, ◌≤◌, length, take}
use Rattle.std.specs.List.{filter}
use Rattle.xs_params.specs.Geometry.{has_line, packet_places}
use Rattle.xs_geometry.proofs.geometry.Geometry.packets.Given as goal

abbrev pub invariant-loop-number : goal.invariant-loop-number
invariant-loop-number l = record {
  value : l.count ≡ length (filter (has_line l.self) (take l.number (packet_places l.self l.precinct)));
  most : l.count ≤ l.number;
}
