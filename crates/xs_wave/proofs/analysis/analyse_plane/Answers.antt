use Rattle.std.proofs.Common.{◌≡◌, length, pos, suc, ◌+◌, ◌*◌, ◌^◌, ◌≤◌, subst, sym, ap, ◌∙◌, arith}
use Rattle.std.proofs.Math.ListN.{set}
use Rattle.std.proofs.Math.Nat.{pow-le-pow_right}
use Rattle.std.proofs.lemmas.List.{length-replicate}
use Rattle.xs_signal.specs.Wavelet.{Split, low_count, bands_of_plane}
use Rattle.xs_wave.specs.Corners.{part_at}
use Rattle.xs_wave.specs.Planes.{plane_of, HasSize}
use Rattle.xs_wave.specs.Bands.{IsComponent, AreBandPlanes, ShowBands}
use Rattle.xs_wave.specs.Levels.{split_by}
use Rattle.xs_wave.specs.Steps.{IsSplitTo}
use Rattle.xs_wave.proofs.Cascade.{component_split, split_start, split_more, split_done}
use Rattle.xs_wave.proofs.Corners.{size_kept, whole_part}
use Rattle.xs_wave.proofs.Rooms.{line_kept}
use Rattle.xs_wave.proofs.Small.{plane_more}
use Rattle.xs_wave.proofs.Types.{all_counted, first_of_all}
use Rattle.xs_wave.proofs.analysis.analyse_plane.Goals as goal

pub split_level-requires-clause-size : goal.split_level-requires-clause-size
split_level-requires-clause-size c = c.loop-level.invariant.size

pub split_level-requires-clause-small : goal.split_level-requires-clause-small
split_level-requires-clause-small c =
    let s = split_by c.levels_of-levels.result in
    let component = subst IsComponent (sym c.levels_of-levels.ensures.split) c.requires.component in
    let across = ap (λ (t : Split). t.across) c.levels_of-levels.ensures.split in
    let level = c.loop-level.level in
    let few : 40 + 2 * level ≤ 48 = omega (arith, c.loop-level-test.true, c.requires.component.few) in
    let most : 2 ^ (40 + 2 * level) ≤ 2 ^ 48 = pow-le-pow_right {n = 2} (omega arith) {i = 40 + 2 * level} {j = 48} few in
    plane_more (2 ^ (40 + 2 * level)) (2 ^ 48) (part_at s level c.loop-level.work) most c.loop-level.invariant.split.small

pub split_level-requires-clause-bands : goal.split_level-requires-clause-bands
split_level-requires-clause-bands c = c.loop-level.invariant.split.as_many

pub loop-level-init : goal.loop-level-init
loop-level-init c =
    let s = split_by c.levels_of-levels.result in
    let same = c.levels_of-levels.ensures.split in
    let component = subst IsComponent (sym same) c.requires.component in
    let rows = c.args.plane.now in
    let size : HasSize s.width s.height rows = record { wide = c.levels_of-levels.ensures.wide; high = sym (ap (λ (t : Split). t.height) same) } in
    let many = c.in_ok-bands.ensures ∙ c.first_band.ensures.value ∙ first_of_all s component.deep in
    let copied = c.in_ok-work.ensures in
    record {
      split = subst (λ x. IsSplitTo s (plane_of rows) 0 (part_at s 0 x) c.in_ok-bands.bands) (sym copied)
          (subst (λ x. IsSplitTo s (plane_of rows) 0 x c.in_ok-bands.bands) (whole_part s rows size) (split_start s rows c.in_ok-bands.bands component.deep size c.requires.small many));
      size = subst (HasSize s.width s.height) (sym copied) size;
      line = ap length c.in_ok-line.ensures ∙ length-replicate (low_count s.width) (pos 0);
    }

pub loop-level-preserved : goal.loop-level-preserved
loop-level-preserved c =
    let s = split_by c.levels_of-levels.result in
    let same = c.levels_of-levels.ensures.split in
    let component = subst IsComponent (sym same) c.requires.component in
    let level = c.loop-level.level in
    let across = ap (λ (t : Split). t.across) same in
    let next : suc level ≡ level + 1 = omega arith in
    let p = plane_of c.args.plane.now in
    let old = c.loop-level.work in
    let new = c.split_level.new.work in
    record {
      split = subst (λ l. IsSplitTo s p l (part_at s l new) c.split_level.new.bands) next
          (split_more s p level (part_at s level old) (part_at s (suc level) new) c.loop-level.bands c.split_level.new.bands (component_split s component) (omega (arith, c.loop-level-test.true, across)) c.loop-level.invariant.split
          c.in_ok-split_level.ensures.split);
      size = size_kept s.width s.height old new c.in_ok-split_level.ensures.shape c.loop-level.invariant.size;
      line = line_kept c.loop-level.line c.as_mut_slice.result.now c.split_level.new.line (low_count s.width) c.as_mut_slice.ensures.value c.split_level.auto.line c.loop-level.invariant.line;
    }

pub put-requires : goal.put-requires
put-requires c =
    let s = split_by c.levels_of-levels.result in
    let component = subst IsComponent (sym c.levels_of-levels.ensures.split) c.requires.component in
    omega (arith, c.loop-level.invariant.split.as_many, all_counted s component.deep)

pub returns-clause-planes : goal.returns-clause-planes
returns-clause-planes c =
    let s = split_by c.levels_of-levels.result in
    let same = c.levels_of-levels.ensures.split in
    let component = subst IsComponent (sym same) c.requires.component in
    let across = ap (λ (t : Split). t.across) same in
    let p = plane_of c.args.plane.now in
    let work = c.loop-level.work in
    let planes = c.loop-level.bands in
    let some = component.some in
    let ended : c.loop-level.level ≡ s.across = omega (arith, c.loop-level-test.false, across, some) in
    let done = split_done s p (part_at s s.across work) planes component.deep (subst (λ l. IsSplitTo s p l (part_at s l work) planes) ended c.loop-level.invariant.split) in
    let stored : c.put.new.self ≡ set planes 0 (part_at s s.across work) = c.put.ensures ∙ ap (set planes 0) c.in_ok-low_part.ensures in
    subst (λ t. AreBandPlanes t c.put.new.self) same (subst (AreBandPlanes s) (sym stored) done.0)

pub returns-clause-bands : goal.returns-clause-bands
returns-clause-bands c =
    let s = split_by c.levels_of-levels.result in
    let same = c.levels_of-levels.ensures.split in
    let component = subst IsComponent (sym same) c.requires.component in
    let across = ap (λ (t : Split). t.across) same in
    let p = plane_of c.args.plane.now in
    let work = c.loop-level.work in
    let planes = c.loop-level.bands in
    let some = component.some in
    let ended : c.loop-level.level ≡ s.across = omega (arith, c.loop-level-test.false, across, some) in
    let done = split_done s p (part_at s s.across work) planes component.deep (subst (λ l. IsSplitTo s p l (part_at s l work) planes) ended c.loop-level.invariant.split) in
    let stored : c.put.new.self ≡ set planes 0 (part_at s s.across work) = c.put.ensures ∙ ap (set planes 0) c.in_ok-low_part.ensures in
    subst (λ t. ShowBands t c.put.new.self (bands_of_plane t p)) same (subst (λ x. ShowBands s x (bands_of_plane s p)) (sym stored) done.1)
