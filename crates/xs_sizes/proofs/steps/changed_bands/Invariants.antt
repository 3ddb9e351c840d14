use Rattle.xs_sizes.specs.Stepped.{AreAlike}
use Rattle.xs_sizes.proofs.steps.changed_bands.Given as goal

abbrev pub invariant-bands : goal.invariant-bands
invariant-bands l = record { alike : AreAlike l.from l.to l.range.0 l.range.1 l.band }
