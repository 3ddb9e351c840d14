use Rattle.std.proofs.Common.{◌≡◌, ◌+◌, length, take}
use Rattle.std.specs.List.{filter}
use Rattle.xs_params.specs.Geometry.{has_line, packet_places}
use Rattle.xs_geometry.proofs.geometry.Geometry.nth_packet.Given as goal

abbrev pub invariant-loop-at : goal.invariant-loop-at
invariant-loop-at l = length (filter (has_line l.self) (take l.at (packet_places l.self l.precinct))) + l.left ≡ l.number
