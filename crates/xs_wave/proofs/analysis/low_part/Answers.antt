use Rattle.std.proofs.Common.{ap, sym, subst, ◌∙◌}
use Rattle.xs_signal.specs.Wavelet.{low_count_at}
use Rattle.xs_wave.specs.Corners.{drawn}
use Rattle.xs_wave.specs.Levels.{split_by}
use Rattle.xs_wave.specs.Planes.{plane_of, HasSize}
use Rattle.xs_wave.proofs.Blanks.{blank_size}
use Rattle.xs_wave.proofs.Corners.{drawn_is, size_kept}
use Rattle.xs_wave.proofs.Rooms.{room_at}
use Rattle.xs_wave.proofs.analysis.low_part.Goals as goal

pub copy_part-requires-clause-room : goal.copy_part-requires-clause-room
copy_part-requires-clause-room c =
    room_at (split_by c.args.levels) c.args.levels.across c.columns-width.result c.rows-height.result c.args.work.now c.requires.size c.columns-width.ensures.value c.rows-height.ensures.value

pub returns : goal.returns
returns c =
    let s = split_by c.args.levels in
    let width = c.columns-width.result in
    let height = c.rows-height.result in
    let p = plane_of c.args.work.now in
    let low = c.copy_part.new.to in
    let size : HasSize width height low = size_kept width height c.in_ok-low.low low c.copy_part.ensures.shape (subst (HasSize width height) (sym c.in_ok-low.ensures) (blank_size width height)) in
    drawn_is width height p low size c.copy_part.ensures.same ∙ ap (λ k. drawn k height p) c.columns-width.ensures.value ∙ ap (λ k. drawn (low_count_at s.width s.across) k p) c.rows-height.ensures.value
