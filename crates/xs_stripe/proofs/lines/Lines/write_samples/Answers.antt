use Rattle.std.proofs.Common.{ap, ◌∙◌, arith}
use Rattle.xs_signal.specs.Samples.{scale_out}
use Rattle.xs_stripe.proofs.lines.Lines.write_samples.Goals as goal

pub returns-clause-samples : goal.returns-clause-samples
returns-clause-samples c coefficients holds column inside =
    let h = c.args.self.now.header.now in
    c.scale_row_out.ensures.scaled column inside
    ∙ ap (scale_out h.shape.depth h.bw) (c.numbers.ensures.shows coefficients holds column (omega (arith, inside, c.scale_row_out.auto.samples, c.requires.width, c.numbers.ensures.width)))
