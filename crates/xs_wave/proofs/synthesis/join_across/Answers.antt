use Rattle.std.proofs.Common.{◌≡◌, ◌+◌, ◌/◌, ◌^◌, suc, length, get_or, [], subst, sym, ap, ◌∙◌, arith}
use Rattle.std.proofs.lemmas.List.{length-take-le}
use Rattle.xs_signal.specs.Wavelet.{high_count, low_count_at}
use Rattle.xs_signal.specs.Stripe.{rows_at}
use Rattle.xs_wave.specs.Planes.{plane_of, HasSize}
use Rattle.xs_wave.specs.Bands.{first_number}
use Rattle.xs_wave.specs.Levels.{split_by}
use Rattle.xs_wave.proofs.Cascade.{component_split}
use Rattle.xs_wave.proofs.Corners.{drawn_below}
use Rattle.xs_wave.proofs.Joins.{hl_across, across_rejoined}
use Rattle.xs_wave.proofs.Rooms.{count_most, rows_most, half_most}
use Rattle.xs_wave.proofs.Shown.{below_more}
use Rattle.xs_wave.proofs.Types.{room_wide, first_next}
use Rattle.xs_wave.proofs.WithinLaws.{rows_kept}
use Rattle.xs_wave.proofs.synthesis.join_across.Goals as goal

pub plane_at-high-requires : goal.plane_at-high-requires
plane_at-high-requires c =
    let s = split_by c.args.levels in
    omega (arith, c.first_band.ensures.value, first_next s c.args.level, c.requires.planes.as_many, room_wide s c.args.level c.requires.component.deep c.requires.wide c.requires.level)

pub slice_bounds-join_rows-end : goal.slice_bounds-join_rows-end
slice_bounds-join_rows-end c = half_most (split_by c.args.levels) c.args.level c.columns-width.result (length c.args.line.now) c.columns-width.ensures.value c.requires.line

pub slice_bounds-join_rows-end-2 : goal.slice_bounds-join_rows-end-2
slice_bounds-join_rows-end-2 c = sym (length-take-le ((c.columns-width.result + 1) / 2) c.args.line.now (half_most (split_by c.args.levels) c.args.level c.columns-width.result (length c.args.line.now) c.columns-width.ensures.value c.requires.line))

pub join_rows-requires-clause-line : goal.join_rows-requires-clause-line
join_rows-requires-clause-line c = length-take-le ((c.columns-width.result + 1) / 2) c.args.line.now (half_most (split_by c.args.levels) c.args.level c.columns-width.result (length c.args.line.now) c.columns-width.ensures.value c.requires.line)

pub join_rows-requires-clause-two : goal.join_rows-requires-clause-two
join_rows-requires-clause-two c =
    let split = component_split (split_by c.args.levels) c.requires.component in
    let two = split.wide c.args.level c.requires.level in
    omega (arith, c.columns-width.ensures.value, two)

pub join_rows-requires-clause-inside : goal.join_rows-requires-clause-inside
join_rows-requires-clause-inside c row less = omega (arith, less, c.rows.ensures.value, rows_most (split_by c.args.levels) c.args.level, c.requires.size.high)

pub join_rows-requires-clause-few : goal.join_rows-requires-clause-few
join_rows-requires-clause-few c = omega (arith, c.rows.ensures.value, rows_most (split_by c.args.levels) c.args.level, c.requires.size.high)

pub join_rows-requires-clause-wide : goal.join_rows-requires-clause-wide
join_rows-requires-clause-wide c row inside = omega (arith, c.columns-width.ensures.value, count_most c.args.levels.width c.args.level, c.requires.size.wide row inside)

pub join_rows-requires-clause-highs : goal.join_rows-requires-clause-highs
join_rows-requires-clause-highs c =
    let s = split_by c.args.levels in
    let level = c.args.level in
    let planes = c.args.bands.now in
    let here : c.plane_at-high.result.now ≡ get_or planes (first_number s (level + 1)) [] = c.plane_at-high.ensures ∙ ap (λ k. get_or planes k []) c.first_band.ensures.value in
    subst (HasSize (high_count c.columns-width.result) c.rows.result) (sym here)
    (subst (λ w. HasSize (high_count w) c.rows.result (get_or planes (first_number s (level + 1)) [])) (sym c.columns-width.ensures.value)
    (subst (λ h. HasSize (high_count (low_count_at s.width level)) h (get_or planes (first_number s (level + 1)) [])) (sym c.rows.ensures.value)
    (hl_across s planes level c.requires.component.deep c.requires.planes c.requires.wide c.requires.level)))

pub join_rows-requires-clause-small : goal.join_rows-requires-clause-small
join_rows-requires-clause-small c row less column within =
    let s = split_by c.args.levels in
    let level = c.args.level in
    let kept = rows_kept s level c.requires.wide in
    below_more (2 ^ 48) (2 ^ 50) _ (omega arith)
    (drawn_below (2 ^ 48) (low_count_at s.width (suc level)) (rows_at s (suc level)) (plane_of c.args.plane.now) c.requires.small row (omega (arith, less, c.rows.ensures.value, kept)) column
    (omega (arith, within, c.columns-width.ensures.value)))

pub returns-clause-joined : goal.returns-clause-joined
returns-clause-joined c =
    let s = split_by c.args.levels in
    let level = c.args.level in
    let planes = c.args.bands.now in
    let here : c.plane_at-high.result.now ≡ get_or planes (first_number s (level + 1)) [] = c.plane_at-high.ensures ∙ ap (λ k. get_or planes k []) c.first_band.ensures.value in
    across_rejoined s level c.columns-width.result c.rows.result c.args.plane.now c.join_rows.new.plane c.plane_at-high.result.now planes (component_split s c.requires.component) c.requires.wide c.requires.level
    c.columns-width.ensures.value c.rows.ensures.value here c.join_rows.ensures.joined
