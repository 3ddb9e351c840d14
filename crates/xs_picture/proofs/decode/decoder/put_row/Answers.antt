use Rattle.std.proofs.Common.{◌≡◌, ◌-◌, ap, ◌∙◌, arith}
use Rattle.xs_params.specs.Picture.{Picture, sample_at}
use Rattle.xs_decoding.specs.Decoded.{decoded_sample}
use Rattle.xs_decoding.proofs.Written.{row_written, row_kept}
use Rattle.xs_picture.proofs.decode.decoder.put_row.Goals as goal

pub returns-clause-written : goal.returns-clause-written
returns-clause-written c coefficients holds column inside =
    let wide = c.write_samples.auto.samples in
    let last : c.args.lines.now.given - 1 ≡ c.args.line = omega (arith, c.requires.last) in
    ap (λ (p : Picture). sample_at p c.args.component c.args.line column) c.set_row.ensures.set
    ∙ row_written c.args.picture.now c.args.component c.args.line column c.write_samples.new.samples c.known_picture.ensures c.requires.row (wide ∙ c.requires.width) (omega (arith, inside, wide, c.requires.width))
    ∙ c.write_samples.ensures.samples coefficients holds column (omega (arith, inside, wide, c.requires.width))
    ∙ ap (λ n. decoded_sample c.args.lines.now.header.now coefficients c.args.component n column) last

pub returns-clause-others : goal.returns-clause-others
returns-clause-others c other later column place apart =
    ap (λ (p : Picture). sample_at p other later column) c.set_row.ensures.set
    ∙ row_kept c.args.picture.now c.args.component c.args.line other later column c.write_samples.new.samples c.known_picture.ensures c.requires.row (c.write_samples.auto.samples ∙ c.requires.width) place apart
