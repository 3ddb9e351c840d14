use Rattle.std.proofs.Common.{refl}
use Rattle.xs_sizes.proofs.Stepping.{alike_more}
use Rattle.xs_sizes.proofs.steps.changed_bands.Goals as goal

pub bands-preserved : goal.bands-preserved
bands-preserved c = record {
  alike = alike_more c.args.from.now c.args.to.now c.bands.range.0 c.bands.range.1 c.bands.band c.with_band-range.result.0 c.with_band-range.result.1 _ refl c.with_band-range.ensures.first c.with_band-range.ensures.end c.bands.invariant.alike;
}
