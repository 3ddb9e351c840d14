use Rattle.std.proofs.Common.{◌≡◌, ◌+◌, sym, subst, arith}
use Rattle.xs_wave.specs.Bands.{IsComponent, AreBandPlanes, band_count}
use Rattle.xs_wave.specs.Levels.{split_by}
use Rattle.xs_wave.proofs.Blanks.{AreBlank, blank_more, blank_done}
use Rattle.xs_wave.proofs.Types.{first_of_all}
use Rattle.xs_wave.proofs.bands.BandPlanes.blank.Goals as goal

pub band_size-columns-requires-clause-number : goal.band_size-columns-requires-clause-number
band_size-columns-requires-clause-number c =
    let s = split_by c.new-levels.result in
    let component = subst IsComponent (sym c.new-levels.ensures) c.requires.component in
    omega (arith, c.loop-number-test.true, c.first_band-number-end.ensures.value, first_of_all s component.deep)

pub loop-number-preserved : goal.loop-number-preserved
loop-number-preserved c =
    let s = split_by c.new-levels.result in
    let n = c.loop-number.number in
    subst (AreBlank s (n + 1)) (sym c.in_ok-push.ensures)
    (blank_more s n c.band_size-columns.result.0 c.band_size-columns.result.1 c.loop-number.bands c.in_ok-plane.plane c.loop-number.invariant c.band_size-columns.ensures.size c.in_ok-plane.ensures)

pub returns-clause-planes : goal.returns-clause-planes
returns-clause-planes c =
    let s = split_by c.new-levels.result in
    let same = c.new-levels.ensures in
    let component = subst IsComponent (sym same) c.requires.component in
    let all : c.loop-number.number ≡ band_count s = omega (arith, c.loop-number-test.false, c.loop-number.auto.number-end, c.first_band-number-end.ensures.value, first_of_all s component.deep) in
    subst (λ t. AreBandPlanes t c.loop-number.bands) same (blank_done s c.loop-number.bands c.loop-number.number all c.loop-number.invariant)
