use Rattle.std.proofs.Common.{◌≡◌, ◌+◌, ◌^◌, ◌<◌, suc, length, length-set, subst, sym, ap, ◌∙◌, arith}
use Rattle.std.proofs.Math.ListN.{set}
use Rattle.xs_signal.specs.Wavelet.{low_count_at}
use Rattle.xs_signal.specs.Stripe.{rows_at}
use Rattle.xs_wave.specs.Corners.{part_at}
use Rattle.xs_wave.specs.Planes.{plane_of}
use Rattle.xs_wave.specs.Bands.{first_number}
use Rattle.xs_wave.specs.Levels.{split_by}
use Rattle.xs_wave.specs.Steps.{IsLevelSplit}
use Rattle.xs_wave.proofs.Cascade.{component_split}
use Rattle.xs_wave.proofs.Corners.{drawn_below}
use Rattle.xs_wave.proofs.Splits.{both_split, three_set}
use Rattle.xs_wave.proofs.Types.{room_deep, first_next}
use Rattle.xs_wave.proofs.analysis.split_both.Goals as goal

pub split_part-requires-clause-two_columns : goal.split_part-requires-clause-two_columns
split_part-requires-clause-two_columns c =
    let split = component_split (split_by c.args.levels) c.requires.component in
    let two = split.wide c.args.level (omega (arith, c.requires.level, c.requires.component.deep)) in
    omega (arith, c.columns-width.ensures.value, two)

pub split_part-requires-clause-small : goal.split_part-requires-clause-small
split_part-requires-clause-small c row less column within =
    let s = split_by c.args.levels in
    drawn_below (2 ^ 48) (low_count_at s.width c.args.level) (rows_at s c.args.level) (plane_of c.args.work.now) c.requires.small row (omega (arith, less, c.rows-height.ensures.value)) column
    (omega (arith, within, c.columns-width.ensures.value))

pub put-requires : goal.put-requires
put-requires c =
    let s = split_by c.args.levels in
    let first = c.first_band-first.ensures.value ∙ first_next s c.args.level in
    omega (arith, first, c.requires.bands, room_deep s c.args.level c.requires.component.deep c.requires.level)

pub put-requires-2 : goal.put-requires-2
put-requires-2 c =
    let s = split_by c.args.levels in
    let first = c.first_band-first.ensures.value ∙ first_next s c.args.level in
    let kept = ap length c.put.ensures ∙ length-set c.args.bands.now c.first_band-first.result c.in_ok-quarters.quarters.hl in
    omega (arith, first, kept, c.requires.bands, room_deep s c.args.level c.requires.component.deep c.requires.level)

pub put-requires-3 : goal.put-requires-3
put-requires-3 c =
    let s = split_by c.args.levels in
    let first = c.first_band-first.ensures.value ∙ first_next s c.args.level in
    let kept = ap length c.put.ensures ∙ length-set c.args.bands.now c.first_band-first.result c.in_ok-quarters.quarters.hl in
    let still = ap length c.put-2.ensures ∙ length-set c.put.new.self (c.first_band-first.result + 1) c.in_ok-quarters.quarters.lh in
    omega (arith, first, kept, still, c.requires.bands, room_deep s c.args.level c.requires.component.deep c.requires.level)

pub returns-clause-split : goal.returns-clause-split
returns-clause-split c =
    let s = split_by c.args.levels in
    let level = c.args.level in
    let planes = c.args.bands.now in
    let old = c.args.work.now in
    let new = c.split_part.new.work in
    let hl = c.in_ok-quarters.quarters.hl in
    let lh = c.in_ok-quarters.quarters.lh in
    let hh = c.in_ok-quarters.quarters.hh in
    let f = first_number s (suc level) in
    let first : c.first_band-first.result ≡ f = c.first_band-first.ensures.value ∙ first_next s level in
    let room : f + 2 < length planes = omega (arith, c.requires.bands, room_deep s level c.requires.component.deep c.requires.level) in
    let k = c.first_band-first.result in
    let stored : c.put-3.new.self ≡ three_set planes f hl lh hh =
    c.put-3.ensures ∙ ap (λ x. set x (k + 2) hh) (c.put-2.ensures ∙ ap (λ x. set x (k + 1) lh) c.put.ensures) ∙ ap (λ i. three_set planes i hl lh hh) first in
    subst (IsLevelSplit s level (plane_of (part_at s level old)) (part_at s (suc level) new) planes) (sym stored)
    (both_split s level c.columns-width.result c.rows-height.result old new hl lh hh planes (component_split s c.requires.component) c.requires.level room c.columns-width.ensures.value c.rows-height.ensures.value
    c.in_ok-quarters.ensures.quarters)
