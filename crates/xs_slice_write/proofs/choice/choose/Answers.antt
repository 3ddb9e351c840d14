use Rattle.std.proofs.Common.{◌≡◌, ◌-◌, length, slice_index_or, ap, ◌∙◌, arith}
use Rattle.std.specs.Prelude.{find, Ok}
use Rattle.xs_layout.specs.Candidates.{candidates_of, finest}
use Rattle.xs_params.specs.Geometry.{coding_header}
use Rattle.xs_geometry.specs.SliceLines.{rows_held}
use Rattle.xs_rate.specs.Chosen.{candidates, coarsest, fits_at, size_at}
use Rattle.xs_slice_write.proofs.Found.{over_choice, within_choice}
use Rattle.xs_slice_write.proofs.choice.choose.Goals as goal

pub returns-then-size-share_bytes : goal.returns-then-size-share_bytes
returns-then-size-share_bytes c bands kept =
    let weights = c.args.weights.now in
    let h = coding_header c.args.geometry.now weights c.args.signs_apart c.args.quant in
    let rows = rows_held bands in
    let last : c.coarsest-last.result ≡ coarsest h = c.coarsest-last.ensures ∙ ap (λ n. slice_index_or (candidates_of n weights) (length (candidates_of n weights) - 1) finest) c.requires.weights in
    let size : c.slice_size-size.result ≡ size_at h rows c.args.slice (coarsest h) =
    c.slice_size-size.ensures.size bands weights c.coarsest-last.result (record { coded = kept; count = c.requires.weights; truncations = c.cuts_of.ensures.cuts }) ∙ ap (size_at h rows c.args.slice) last in
    over_choice h rows c.args.share c.args.slice c.slice_size-size.result size (omega (arith, c.if-size-share_bytes.true, c.from-share_bytes.ensures))

pub returns : goal.returns
returns c bands kept =
    let weights = c.args.weights.now in
    let h = coding_header c.args.geometry.now weights c.args.signs_apart c.args.quant in
    let rows = rows_held bands in
    let last : c.coarsest-last.result ≡ coarsest h = c.coarsest-last.ensures ∙ ap (λ n. slice_index_or (candidates_of n weights) (length (candidates_of n weights) - 1) finest) c.requires.weights in
    let size : c.slice_size-size.result ≡ size_at h rows c.args.slice (coarsest h) =
    c.slice_size-size.ensures.size bands weights c.coarsest-last.result (record { coded = kept; count = c.requires.weights; truncations = c.cuts_of.ensures.cuts }) ∙ ap (size_at h rows c.args.slice) last in
    let first = c.first_fitting.ensures bands kept ∙ ap (λ s. find (fits_at h rows s c.args.slice) (candidates h)) c.from-share_bytes.ensures in
    ap (λ k. Ok k) c.unwrap_or.ensures
    ∙ within_choice h rows c.args.share c.args.slice c.slice_size-size.result c.first_fitting.result c.coarsest-last.result size (omega (arith, c.if-size-share_bytes.false, c.from-share_bytes.ensures)) last first
