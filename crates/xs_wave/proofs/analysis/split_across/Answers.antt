use Rattle.std.proofs.Common.{◌≡◌, ◌<◌, ◌+◌, ◌*◌, ◌/◌, ◌^◌, suc, length, subst, sym, ap, ◌∙◌, arith}
use Rattle.std.proofs.Math.ListN.{set}
use Rattle.std.proofs.lemmas.List.{length-take-le}
use Rattle.xs_signal.specs.Wavelet.{low_count_at}
use Rattle.xs_signal.specs.Stripe.{rows_at}
use Rattle.xs_wave.specs.Corners.{part_at}
use Rattle.xs_wave.specs.Planes.{plane_of}
use Rattle.xs_wave.specs.Bands.{first_number}
use Rattle.xs_wave.specs.Levels.{split_by}
use Rattle.xs_wave.specs.Steps.{IsLevelSplit}
use Rattle.xs_wave.proofs.Cascade.{component_split}
use Rattle.xs_wave.proofs.Corners.{drawn_below}
use Rattle.xs_wave.proofs.Rooms.{count_most, rows_most, half_most}
use Rattle.xs_wave.proofs.Shown.{below_more}
use Rattle.xs_wave.proofs.Splits.{across_split}
use Rattle.xs_wave.proofs.Types.{room_wide, first_next}
use Rattle.xs_wave.proofs.Values.{below_same}
use Rattle.xs_wave.proofs.analysis.split_across.Goals as goal

pub slice_bounds-split_rows-end : goal.slice_bounds-split_rows-end
slice_bounds-split_rows-end c = half_most (split_by c.args.levels) c.args.level c.columns-width.result (length c.args.line.now) c.columns-width.ensures.value c.requires.line

pub slice_bounds-split_rows-end-2 : goal.slice_bounds-split_rows-end-2
slice_bounds-split_rows-end-2 c =
    sym (length-take-le ((c.columns-width.result + 1) / 2) c.args.line.now (half_most (split_by c.args.levels) c.args.level c.columns-width.result (length c.args.line.now) c.columns-width.ensures.value c.requires.line))

pub split_rows-requires-clause-two : goal.split_rows-requires-clause-two
split_rows-requires-clause-two c =
    let split = component_split (split_by c.args.levels) c.requires.component in
    let two = split.wide c.args.level c.requires.level in
    omega (arith, c.columns-width.ensures.value, two)

pub split_rows-requires-clause-inside : goal.split_rows-requires-clause-inside
split_rows-requires-clause-inside c row less = omega (arith, less, c.rows-height.ensures.value, rows_most (split_by c.args.levels) c.args.level, c.requires.size.high)

pub split_rows-requires-clause-few : goal.split_rows-requires-clause-few
split_rows-requires-clause-few c = omega (arith, c.rows-height.ensures.value, rows_most (split_by c.args.levels) c.args.level, c.requires.size.high)

pub split_rows-requires-clause-wide : goal.split_rows-requires-clause-wide
split_rows-requires-clause-wide c row inside = omega (arith, c.columns-width.ensures.value, count_most c.args.levels.width c.args.level, c.requires.size.wide row inside)

pub split_rows-requires-clause-line : goal.split_rows-requires-clause-line
split_rows-requires-clause-line c =
    length-take-le ((c.columns-width.result + 1) / 2) c.args.line.now (half_most (split_by c.args.levels) c.args.level c.columns-width.result (length c.args.line.now) c.columns-width.ensures.value c.requires.line)

pub split_rows-requires-clause-small : goal.split_rows-requires-clause-small
split_rows-requires-clause-small c row less column within =
    let s = split_by c.args.levels in
    let level = c.args.level in
    let p = plane_of c.args.work.now in
    let same : 1 * row ≡ row = omega arith in
    let small = drawn_below (2 ^ 48) (low_count_at s.width level) (rows_at s level) p c.requires.small row (omega (arith, less, c.rows-height.ensures.value)) column (omega (arith, within, c.columns-width.ensures.value)) in
    below_same (2 ^ 50) _ _ (ap (λ k. p k column) same) (below_more (2 ^ 48) (2 ^ 50) _ (omega arith) small)

pub put-requires : goal.put-requires
put-requires c =
    let s = split_by c.args.levels in
    let first = c.first_band.ensures.value ∙ first_next s c.args.level in
    omega (arith, first, c.requires.bands, room_wide s c.args.level c.requires.component.deep c.requires.wide c.requires.level)

pub returns-clause-split : goal.returns-clause-split
returns-clause-split c =
    let s = split_by c.args.levels in
    let level = c.args.level in
    let high = c.split_rows.new.high in
    let planes = c.args.bands.now in
    let old = c.args.work.now in
    let new = c.split_rows.new.plane in
    let first : c.first_band.result ≡ first_number s (suc level) = c.first_band.ensures.value ∙ first_next s level in
    let room : first_number s (suc level) < length planes = omega (arith, c.requires.bands, room_wide s level c.requires.component.deep c.requires.wide c.requires.level) in
    let stored : c.put.new.self ≡ set planes (first_number s (suc level)) high = c.put.ensures ∙ ap (λ k. set planes k high) first in
    subst (IsLevelSplit s level (plane_of (part_at s level old)) (part_at s (suc level) new) planes) (sym stored)
    (across_split s level c.columns-width.result c.rows-height.result old new high planes (component_split s c.requires.component) c.requires.wide c.requires.level room c.columns-width.ensures.value c.rows-height.ensures.value
    c.split_rows.ensures.low c.split_rows.ensures.high c.split_rows.ensures.size)
