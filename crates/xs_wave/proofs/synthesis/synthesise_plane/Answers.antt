use Rattle.std.proofs.Common.{◌≡◌, suc, pos, ◌-◌, ◌*◌, ◌^◌, ◌≤◌, length, subst, sym, ap, ◌∙◌, arith}
use Rattle.std.proofs.lemmas.List.{length-replicate}
use Rattle.xs_signal.specs.Wavelet.{Split, low_count, low_count_at, inverse_plane}
use Rattle.xs_signal.specs.Stripe.{rows_at}
use Rattle.xs_wave.specs.Corners.{part_at}
use Rattle.xs_wave.specs.Within.{SameWithin}
use Rattle.xs_wave.specs.Planes.{plane_of, HasSize, IsSmall}
use Rattle.xs_wave.specs.Bands.{IsComponent, AreBandPlanes, ShowBands}
use Rattle.xs_wave.specs.Levels.{split_by}
use Rattle.xs_wave.specs.Steps.{IsJoinedTo, half_reach, steps_to}
use Rattle.xs_wave.proofs.Blanks.{blank_size}
use Rattle.xs_wave.proofs.Cascade.{component_split}
use Rattle.xs_wave.proofs.Corners.{drawn_is, room_of, size_kept, whole_part}
use Rattle.xs_wave.proofs.Joins.{join_start, join_more, join_done, half_most, steps_few}
use Rattle.xs_wave.proofs.Rooms.{room_at, line_kept}
use Rattle.xs_wave.proofs.Small.{plane_more}
use Rattle.xs_wave.proofs.Types.{all_counted}
use Rattle.xs_wave.proofs.synthesis.synthesise_plane.Goals as goal

pub plane_at-requires : goal.plane_at-requires
plane_at-requires c =
    let s = split_by c.new-levels.result in
    let same = c.new-levels.ensures in
    let component = subst IsComponent (sym same) c.requires.component in
    let planes = subst (λ t. AreBandPlanes t c.args.bands.now) (sym same) c.requires.planes in
    omega (arith, planes.as_many, all_counted s component.deep)

pub copy_part-requires-clause-room : goal.copy_part-requires-clause-room
copy_part-requires-clause-room c =
    let s = split_by c.new-levels.result in
    let same = c.new-levels.ensures in
    let component = subst IsComponent (sym same) c.requires.component in
    let planes = subst (λ t. AreBandPlanes t c.args.bands.now) (sym same) c.requires.planes in
    let across = ap (λ (t : Split). t.across) same in
    let start = join_start s c.args.bands.now component.deep planes c.requires.small in
    let wide = ap (low_count_at s.width) across in
    let high = ap (rows_at s) across in
    let size : HasSize (low_count_at s.width s.across) (rows_at s s.across) c.plane_at.result.now = subst (HasSize (low_count_at s.width s.across) (rows_at s s.across)) (sym c.plane_at.ensures) start.size in
    room_of (low_count_at s.width s.across) (rows_at s s.across) c.columns.result c.rows.result c.plane_at.result.now size (omega (arith, c.columns.ensures.value, wide)) (omega (arith, c.rows.ensures.value, high))

pub copy_part-requires-clause-room_there : goal.copy_part-requires-clause-room_there
copy_part-requires-clause-room_there c =
    let s = split_by c.new-levels.result in
    let same = c.new-levels.ensures in
    let size : HasSize s.width s.height c.in_ok-plane.plane =
    subst (λ (t : Split). HasSize t.width t.height c.in_ok-plane.plane) (sym same) (subst (HasSize c.args.width c.args.height) (sym c.in_ok-plane.ensures) (blank_size c.args.width c.args.height)) in
    room_at s c.args.nlx c.columns.result c.rows.result c.in_ok-plane.plane size c.columns.ensures.value c.rows.ensures.value

pub loop-level-init : goal.loop-level-init
loop-level-init c =
    let s = split_by c.new-levels.result in
    let same = c.new-levels.ensures in
    let bands = c.args.bands.now in
    let component = subst IsComponent (sym same) c.requires.component in
    let planes = subst (λ t. AreBandPlanes t bands) (sym same) c.requires.planes in
    let across = ap (λ (t : Split). t.across) same in
    let start = join_start s bands component.deep planes c.requires.small in
    let from = c.plane_at.result.now in
    let to = c.copy_part.new.to in
    let first : IsJoinedTo s bands c.args.nlx from = subst (λ l. IsJoinedTo s bands l from) across (subst (IsJoinedTo s bands s.across) (sym c.plane_at.ensures) start) in
    let part : from ≡ part_at s c.args.nlx to =
    drawn_is (low_count_at s.width c.args.nlx) (rows_at s c.args.nlx) (plane_of to) from first.size
    (λ row column inside within. sym (c.copy_part.ensures.same row column (omega (arith, inside, c.rows.ensures.value)) (omega (arith, within, c.columns.ensures.value)))) in
    let size : HasSize s.width s.height c.in_ok-plane.plane =
    subst (λ (t : Split). HasSize t.width t.height c.in_ok-plane.plane) (sym same) (subst (HasSize c.args.width c.args.height) (sym c.in_ok-plane.ensures) (blank_size c.args.width c.args.height)) in
    record {
      inside = omega arith;
      joined = subst (IsJoinedTo s bands c.args.nlx) part first;
      size = size_kept s.width s.height c.in_ok-plane.plane to c.copy_part.ensures.shape size;
      line = ap length c.in_ok-line.ensures ∙ length-replicate (low_count s.width) (pos 0);
    }

pub join_level-requires-clause-small : goal.join_level-requires-clause-small
join_level-requires-clause-small c =
    let s = split_by c.new-levels.result in
    let same = c.new-levels.ensures in
    let component = subst IsComponent (sym same) c.requires.component in
    let across = ap (λ (t : Split). t.across) same in
    let level = c.loop-level.level in
    let plane = c.loop-level.plane in
    let next : level ≡ suc (level - 1) = omega (arith, c.loop-level-test.true) in
    let few = steps_few s (level - 1) component (omega (arith, c.loop-level.invariant.inside, across, next)) in
    let steps : steps_to s level ≤ 5 = omega (arith, few, ap (steps_to s) next) in
    subst (λ l. IsSmall (2 ^ 48) (part_at s l plane)) next (plane_more (2 * half_reach (steps_to s level)) (2 ^ 48) (part_at s level plane) (half_most (steps_to s level) steps) c.loop-level.invariant.joined.small)

pub loop-level-preserved : goal.loop-level-preserved
loop-level-preserved c =
    let s = split_by c.new-levels.result in
    let same = c.new-levels.ensures in
    let bands = c.args.bands.now in
    let component = subst IsComponent (sym same) c.requires.component in
    let across = ap (λ (t : Split). t.across) same in
    let level = c.loop-level.level in
    let old = c.loop-level.plane in
    let new = c.join_level.new.plane in
    let next : level ≡ suc (level - 1) = omega (arith, c.loop-level-test.true) in
    let before : IsJoinedTo s bands (suc (level - 1)) (part_at s (suc (level - 1)) old) = subst (λ l. IsJoinedTo s bands l (part_at s l old)) next c.loop-level.invariant.joined in
    record {
      inside = omega (arith, c.loop-level.invariant.inside);
      joined = join_more s bands (level - 1) (part_at s (suc (level - 1)) old) (part_at s (level - 1) new) component (component_split s component) (omega (arith, c.loop-level.invariant.inside, across, next)) c.requires.small before
          c.join_level.ensures.joined;
      size = size_kept s.width s.height old new c.join_level.ensures.shape c.loop-level.invariant.size;
      line = line_kept c.loop-level.line c.as_mut_slice.result.now c.join_level.new.line (low_count s.width) c.as_mut_slice.ensures.value c.join_level.auto.line c.loop-level.invariant.line;
    }

pub returns-clause-plane : goal.returns-clause-plane
returns-clause-plane c b shown =
    let s = split_by c.new-levels.result in
    let same = c.new-levels.ensures in
    let bands = c.args.bands.now in
    let component = subst IsComponent (sym same) c.requires.component in
    let plane = c.loop-level.plane in
    let none : c.loop-level.level ≡ 0 = omega (arith, c.loop-level-test.false) in
    let at_part : IsJoinedTo s bands 0 (part_at s 0 plane) = subst (λ l. IsJoinedTo s bands l (part_at s l plane)) none c.loop-level.invariant.joined in
    let done : IsJoinedTo s bands 0 plane = subst (IsJoinedTo s bands 0) (sym (whole_part s plane c.loop-level.invariant.size)) at_part in
    subst (λ (t : Split). SameWithin t.width t.height (plane_of plane) (inverse_plane t b)) same
    (join_done s bands plane b component.deep (component_split s component) done (subst (λ t. ShowBands t bands b) (sym same) shown))
