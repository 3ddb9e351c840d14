use Rattle.std.proofs.Common.{◌≡◌, length}
use Rattle.xs_wave.proofs.bands.BandPlanes.empty.Given as goal

abbrev pub invariant-loop : goal.invariant-loop
invariant-loop l = length l.planes.items ≡ l.counter
