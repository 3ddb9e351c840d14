use Rattle.std.proofs.Common.{◌≡◌, ◌+◌, ◌-◌, ap, sym, subst, arith}
use Rattle.xs_signal.specs.Wavelet.{high_count}
use Rattle.xs_wave.specs.Bands.{IsBandSize}
use Rattle.xs_wave.specs.Levels.{split_by}
use Rattle.xs_wave.proofs.BandSizes.{lowest_size, wide_size}
use Rattle.xs_wave.proofs.Types.{all_counted}
use Rattle.xs_wave.proofs.levels.Levels.band_size.Goals as goal

pub deep_band_size-requires-clause-number : goal.deep_band_size-requires-clause-number
deep_band_size-requires-clause-number c =
    let deep = c.requires.component.deep in
    omega (arith, c.requires.number, all_counted (split_by c.args.self) deep, c.if-number-eq0.false, c.if-number-wide.false, deep)

pub returns-then-number-eq0-clause-size : goal.returns-then-number-eq0-clause-size
returns-then-number-eq0-clause-size c =
    let s = split_by c.args.self in
    let none : c.args.number ≡ 0 = omega (arith, c.if-number-eq0.true) in
    subst (λ k. IsBandSize s k c.columns.result c.rows.result) (sym none) (lowest_size s c.columns.result c.rows.result c.requires.component.deep c.columns.ensures.value c.rows.ensures.value)

pub returns-then-number-wide-clause-size : goal.returns-then-number-wide-clause-size
returns-then-number-wide-clause-size c =
    let s = split_by c.args.self in
    wide_size s c.args.number _ _ c.requires.component.deep (omega (arith, c.if-number-eq0.false)) (omega (arith, c.if-number-wide.true)) (ap high_count c.columns-then-number-wide.ensures.value)
    c.rows-then-number-wide.ensures.value

pub returns-else-number-wide-clause-size : goal.returns-else-number-wide-clause-size
returns-else-number-wide-clause-size c =
    let s = split_by c.args.self in
    let here : s.across - s.down + 1 + (c.args.number - (s.across - s.down) - 1) ≡ c.args.number = omega (arith, c.if-number-wide.false) in
    subst (λ k. IsBandSize s k c.deep_band_size.result.0 c.deep_band_size.result.1) here c.deep_band_size.ensures.size
