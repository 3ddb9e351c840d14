use Rattle.std.proofs.Common.{◌≤◌, length, ap, ◌∙◌, arith}
use Rattle.std.proofs.lemmas.List.{length-take-le}
use Rattle.xs_params.specs.declared.header.Header.{Header}
use Rattle.xs_params.specs.Geometry.{component_width}
use Rattle.xs_stripe.proofs.Filled.{columns_most}
use Rattle.xs_stripe.proofs.stripe.add_row.Goals as goal

pub returns-clause-added : goal.returns-clause-added
returns-clause-added c =
    let h = c.args.lines.now.header.now in
    let same = ap (λ (x : Header). component_width x c.args.component) c.header.ensures in
    let most = columns_most h.shape.format h.shape.width c.args.component c.requires.component in
    let room : c.component_width-width.result ≤ length c.args.scratch.now = omega (arith, c.component_width-width.ensures.width, same, most, c.requires.width) in
    let wide = c.write_samples.auto.samples ∙ length-take-le c.component_width-width.result c.args.scratch.now room ∙ c.component_width-width.ensures.width ∙ same in
    (c.write_samples.new.samples, c.in_ok-push.ensures, λ coefficients holds. record { wide = wide; small = c.write_samples.ensures.small; samples = c.write_samples.ensures.samples coefficients holds })
