use Rattle.std.proofs.Common.{sym, arith}
use Rattle.xs_layout.specs.Geometry.{ll}
use Rattle.xs_params.proofs.Gains.{gain_wide, gain_deep}
use Rattle.xs_params.proofs.header.default_gain.Goals as goal

pub returns-then-band_type-wide : goal.returns-then-band_type-wide
returns-then-band_type-wide c =
    record { gain = sym (gain_wide c.args.nlx c.args.nly c.args.band_type (ll 0 0) (omega (arith, c.requires.down)) (omega (arith, c.if-band_type-wide.true))) }

pub returns-else-band_type-wide : goal.returns-else-band_type-wide
returns-else-band_type-wide c = record {
  gain =
      sym (gain_deep c.args.nlx c.args.nly c.args.band_type (ll 0 0) (omega (arith, c.requires.down)) (omega (arith, c.if-band_type-wide.false)) (omega (arith, c.requires.there)));
}
