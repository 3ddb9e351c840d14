use Rattle.std.proofs.Common.{◌≡◌, map, replicate}
use Rattle.std.specs.Prelude.{None}
use Rattle.xs_precinct.specs.Bands.{last_of}
use Rattle.xs_precinct.proofs.read.above.Above.fresh.Given as goal

abbrev pub invariant-bands : goal.invariant-bands
invariant-bands l = map last_of l.fresh.items ≡ replicate l.counter None
