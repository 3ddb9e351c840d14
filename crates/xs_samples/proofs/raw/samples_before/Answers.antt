use Rattle.std.proofs.Common.{◌+◌, ◌-◌, ◌*◌, ◌<◌, ◌∙◌, sym, ap, arith}
use Rattle.xs_params.proofs.Areas.{first_is}
use Rattle.xs_samples.proofs.raw.samples_before.Goals as goal

pub returns-clause-count : goal.returns-clause-count
returns-clause-count c =
    let shape = c.args.shape.now in
    let component = c.args.component in
    let some : 0 < component = omega (arith, c.if-component-eq0.false) in
    ap (λ n. (shape.width + (component - 1) * n) * shape.height) c.component_width-chroma.ensures.width
    ∙ sym (first_is shape.format shape.width shape.height component some c.requires.component)
