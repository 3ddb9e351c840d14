use Rattle.std.proofs.Common.{◌≡◌, suc, ◌+◌, ◌-◌, ◌*◌, ◌/◌, ◌<◌, ap, ◌∙◌, arith, refl}
use Rattle.xs_signal.specs.Wavelet.{low_count, high_count}
use Rattle.xs_wave.proofs.WithinLaws.{rows_deep}
use Rattle.xs_wave.specs.Levels.{split_by}
use Rattle.xs_wave.proofs.BandSizes.{deep_size}
use Rattle.xs_wave.proofs.levels.Levels.deep_band_size.Goals as goal

pub returns-in-0-clause-size : goal.returns-in-0-clause-size
returns-in-0-clause-size c =
    let s = split_by c.args.self in
    let n = c.args.number in
    let level = s.down - 1 - n / 3 in
    let less : level < s.down = omega (arith, c.requires.number) in
    let rest : n ≡ 3 * (s.down - suc level) + 0 = omega (arith, c.requires.number, c.in-0.is) in
    let rows = c.rows-rows.ensures.value ∙ rows_deep s level (omega (arith, less)) in
    deep_size s (s.across - s.down + 1 + n) n level 0 _ _ c.requires.component.deep refl rest less (omega arith) (ap high_count c.columns-columns.ensures.value) (ap low_count rows)

pub returns-in-1-clause-size : goal.returns-in-1-clause-size
returns-in-1-clause-size c =
    let s = split_by c.args.self in
    let n = c.args.number in
    let level = s.down - 1 - n / 3 in
    let less : level < s.down = omega (arith, c.requires.number) in
    let rest : n ≡ 3 * (s.down - suc level) + 1 = omega (arith, c.requires.number, c.in-1.is) in
    let rows = c.rows-rows.ensures.value ∙ rows_deep s level (omega (arith, less)) in
    deep_size s (s.across - s.down + 1 + n) n level 1 _ _ c.requires.component.deep refl rest less (omega arith) (ap low_count c.columns-columns.ensures.value) (ap high_count rows)

pub returns-in_default-clause-size : goal.returns-in_default-clause-size
returns-in_default-clause-size c =
    let s = split_by c.args.self in
    let n = c.args.number in
    let level = s.down - 1 - n / 3 in
    let less : level < s.down = omega (arith, c.requires.number) in
    let rest : n ≡ 3 * (s.down - suc level) + 2 = omega (arith, c.requires.number, c.in_default) in
    let rows = c.rows-rows.ensures.value ∙ rows_deep s level (omega (arith, less)) in
    deep_size s (s.across - s.down + 1 + n) n level 2 _ _ c.requires.component.deep refl rest less (omega arith) (ap high_count c.columns-columns.ensures.value) (ap high_count rows)
