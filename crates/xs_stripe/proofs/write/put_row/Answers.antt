use Rattle.std.proofs.Common.{◌≡◌, length, get_or, sym, ap, ◌∙◌, arith}
use Rattle.xs_params.specs.Picture.{Picture, sample_at, width_of}
use Rattle.xs_decoding.proofs.Written.{row_kept, row_written}
use Rattle.xs_stripe.proofs.write.put_row.Goals as goal

pub returns-clause-written : goal.returns-clause-written
returns-clause-written c column inside =
    let wide : length c.row.result.now ≡ width_of c.args.picture.now.shape c.args.component = ap length c.row.ensures ∙ c.requires.fits.wide in
    sym (
    ap (λ (p : Picture). sample_at p c.args.component c.args.line column) c.set_row.ensures.set
    ∙ row_written c.args.picture.now c.args.component c.args.line column c.row.result.now c.known_picture.ensures c.requires.row wide (omega (arith, inside, wide))
    ∙ ap (λ l. get_or l column 0) c.row.ensures
    )

pub returns-clause-others : goal.returns-clause-others
returns-clause-others c other row column place apart =
    ap (λ (p : Picture). sample_at p other row column) c.set_row.ensures.set
    ∙ row_kept c.args.picture.now c.args.component c.args.line other row column c.row.result.now c.known_picture.ensures c.requires.row (ap length c.row.ensures ∙ c.requires.fits.wide) place apart
