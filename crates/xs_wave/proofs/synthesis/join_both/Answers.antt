use Rattle.std.proofs.Common.{◌≡◌, ◌+◌, ◌/◌, ◌^◌, suc, length, get_or, [], subst, sym, ap, ◌∙◌, arith}
use Rattle.std.proofs.lemmas.List.{length-take-le}
use Rattle.xs_signal.specs.Wavelet.{low_count, high_count, low_count_at}
use Rattle.xs_signal.specs.Stripe.{rows_at}
use Rattle.xs_wave.specs.Planes.{plane_of, HasSize, IsSmall}
use Rattle.xs_wave.specs.Corners.{drawn}
use Rattle.xs_wave.specs.Bands.{first_number}
use Rattle.xs_wave.specs.Levels.{split_by}
use Rattle.xs_wave.proofs.Cascade.{component_split}
use Rattle.xs_wave.proofs.Joins.{hl_both, lh_both, hh_both, both_rejoined}
use Rattle.xs_wave.proofs.Rooms.{half_most, room_at}
use Rattle.xs_wave.proofs.Small.{plane_more}
use Rattle.xs_wave.proofs.Types.{room_deep, first_next}
use Rattle.xs_wave.proofs.WithinLaws.{rows_deep}
use Rattle.xs_wave.proofs.synthesis.join_both.Goals as goal

pub plane_at-requires : goal.plane_at-requires
plane_at-requires c =
    let s = split_by c.args.levels in
    omega (arith, c.first_band-first.ensures.value, first_next s c.args.level, c.requires.planes.as_many, room_deep s c.args.level c.requires.component.deep c.requires.level)

pub plane_at-requires-2 : goal.plane_at-requires-2
plane_at-requires-2 c =
    let s = split_by c.args.levels in
    omega (arith, c.first_band-first.ensures.value, first_next s c.args.level, c.requires.planes.as_many, room_deep s c.args.level c.requires.component.deep c.requires.level)

pub plane_at-requires-3 : goal.plane_at-requires-3
plane_at-requires-3 c =
    let s = split_by c.args.levels in
    omega (arith, c.first_band-first.ensures.value, first_next s c.args.level, c.requires.planes.as_many, room_deep s c.args.level c.requires.component.deep c.requires.level)

pub join_part-requires-clause-two_columns : goal.join_part-requires-clause-two_columns
join_part-requires-clause-two_columns c =
    let split = component_split (split_by c.args.levels) c.requires.component in
    let two = split.wide c.args.level (omega (arith, c.requires.level, c.requires.component.deep)) in
    omega (arith, c.columns-width.ensures.value, two)

pub join_part-requires-clause-two_rows : goal.join_part-requires-clause-two_rows
join_part-requires-clause-two_rows c =
    let s = split_by c.args.levels in
    let split = component_split s c.requires.component in
    let two = split.high c.args.level c.requires.level in
    omega (arith, c.rows-height.ensures.value, rows_deep s c.args.level (omega (arith, c.requires.level)), two)

pub join_part-requires-clause-room : goal.join_part-requires-clause-room
join_part-requires-clause-room c =
    room_at (split_by c.args.levels) c.args.level c.columns-width.result c.rows-height.result c.args.plane.now c.requires.size c.columns-width.ensures.value c.rows-height.ensures.value

pub join_part-requires-clause-line : goal.join_part-requires-clause-line
join_part-requires-clause-line c = length-take-le ((c.columns-width.result + 1) / 2) c.args.line.now (half_most (split_by c.args.levels) c.args.level c.columns-width.result (length c.args.line.now) c.columns-width.ensures.value c.requires.line)

pub join_part-requires-clause-hl_size : goal.join_part-requires-clause-hl_size
join_part-requires-clause-hl_size c =
    let s = split_by c.args.levels in
    let level = c.args.level in
    let planes = c.args.bands.now in
    let f = first_number s (level + 1) in
    let tall : c.rows-height.result ≡ low_count_at s.height level = c.rows-height.ensures.value ∙ rows_deep s level (omega (arith, c.requires.level)) in
    let here : c.plane_at.result.now ≡ get_or planes f [] = c.plane_at.ensures ∙ ap (λ k. get_or planes k []) c.first_band-first.ensures.value in
    subst (HasSize (high_count c.columns-width.result) (low_count c.rows-height.result)) (sym here)
    (subst (λ w. HasSize (high_count w) (low_count c.rows-height.result) (get_or planes f [])) (sym c.columns-width.ensures.value)
    (subst (λ h. HasSize (high_count (low_count_at s.width level)) (low_count h) (get_or planes f [])) (sym tall) (hl_both s planes level c.requires.component.deep c.requires.planes c.requires.level)))

pub join_part-requires-clause-lh_size : goal.join_part-requires-clause-lh_size
join_part-requires-clause-lh_size c =
    let s = split_by c.args.levels in
    let level = c.args.level in
    let planes = c.args.bands.now in
    let f = first_number s (level + 1) + 1 in
    let tall : c.rows-height.result ≡ low_count_at s.height level = c.rows-height.ensures.value ∙ rows_deep s level (omega (arith, c.requires.level)) in
    let here : c.plane_at-2.result.now ≡ get_or planes f [] = c.plane_at-2.ensures ∙ ap (λ k. get_or planes (k + 1) []) c.first_band-first.ensures.value in
    subst (HasSize (low_count c.columns-width.result) (high_count c.rows-height.result)) (sym here)
    (subst (λ w. HasSize (low_count w) (high_count c.rows-height.result) (get_or planes f [])) (sym c.columns-width.ensures.value)
    (subst (λ h. HasSize (low_count (low_count_at s.width level)) (high_count h) (get_or planes f [])) (sym tall) (lh_both s planes level c.requires.component.deep c.requires.planes c.requires.level)))

pub join_part-requires-clause-hh_size : goal.join_part-requires-clause-hh_size
join_part-requires-clause-hh_size c =
    let s = split_by c.args.levels in
    let level = c.args.level in
    let planes = c.args.bands.now in
    let f = first_number s (level + 1) + 2 in
    let tall : c.rows-height.result ≡ low_count_at s.height level = c.rows-height.ensures.value ∙ rows_deep s level (omega (arith, c.requires.level)) in
    let here : c.plane_at-3.result.now ≡ get_or planes f [] = c.plane_at-3.ensures ∙ ap (λ k. get_or planes (k + 2) []) c.first_band-first.ensures.value in
    subst (HasSize (high_count c.columns-width.result) (high_count c.rows-height.result)) (sym here)
    (subst (λ w. HasSize (high_count w) (high_count c.rows-height.result) (get_or planes f [])) (sym c.columns-width.ensures.value)
    (subst (λ h. HasSize (high_count (low_count_at s.width level)) (high_count h) (get_or planes f [])) (sym tall) (hh_both s planes level c.requires.component.deep c.requires.planes c.requires.level)))

pub join_part-requires-clause-small : goal.join_part-requires-clause-small
join_part-requires-clause-small c =
    let s = split_by c.args.levels in
    let level = c.args.level in
    let p = plane_of c.args.plane.now in
    let tall : rows_at s (suc level) ≡ low_count c.rows-height.result = rows_deep s (suc level) c.requires.level ∙ ap low_count (sym (c.rows-height.ensures.value ∙ rows_deep s level (omega (arith, c.requires.level)))) in
    subst (λ w. IsSmall (2 ^ 48) (drawn (low_count w) (low_count c.rows-height.result) p)) (sym c.columns-width.ensures.value) (subst (λ h. IsSmall (2 ^ 48) (drawn (low_count (low_count_at s.width level)) h p)) tall c.requires.small)

pub join_part-requires-clause-small_hl : goal.join_part-requires-clause-small_hl
join_part-requires-clause-small_hl c =
    let n = c.first_band-first.result in
    subst (IsSmall (2 ^ 48)) (sym c.plane_at.ensures) (plane_more (2 ^ 40) (2 ^ 48) (get_or c.args.bands.now n []) (omega arith) (c.requires.small_planes n))

pub join_part-requires-clause-small_lh : goal.join_part-requires-clause-small_lh
join_part-requires-clause-small_lh c =
    let n = c.first_band-first.result + 1 in
    subst (IsSmall (2 ^ 48)) (sym c.plane_at-2.ensures) (plane_more (2 ^ 40) (2 ^ 48) (get_or c.args.bands.now n []) (omega arith) (c.requires.small_planes n))

pub join_part-requires-clause-small_hh : goal.join_part-requires-clause-small_hh
join_part-requires-clause-small_hh c =
    let n = c.first_band-first.result + 2 in
    subst (IsSmall (2 ^ 48)) (sym c.plane_at-3.ensures) (plane_more (2 ^ 40) (2 ^ 48) (get_or c.args.bands.now n []) (omega arith) (c.requires.small_planes n))

pub returns-clause-joined : goal.returns-clause-joined
returns-clause-joined c =
    let s = split_by c.args.levels in
    let level = c.args.level in
    let planes = c.args.bands.now in
    let f = first_number s (level + 1) in
    let number = c.first_band-first.ensures.value in
    let hl : c.plane_at.result.now ≡ get_or planes f [] = c.plane_at.ensures ∙ ap (λ k. get_or planes k []) number in
    let lh : c.plane_at-2.result.now ≡ get_or planes (f + 1) [] = c.plane_at-2.ensures ∙ ap (λ k. get_or planes (k + 1) []) number in
    let hh : c.plane_at-3.result.now ≡ get_or planes (f + 2) [] = c.plane_at-3.ensures ∙ ap (λ k. get_or planes (k + 2) []) number in
    both_rejoined s level c.columns-width.result c.rows-height.result c.args.plane.now c.join_part.new.plane c.plane_at.result.now c.plane_at-2.result.now c.plane_at-3.result.now planes (component_split s c.requires.component)
    c.requires.level c.columns-width.ensures.value c.rows-height.ensures.value hl lh hh c.join_part.ensures.joined
