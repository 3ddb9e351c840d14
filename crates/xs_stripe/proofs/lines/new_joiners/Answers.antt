use Rattle.std.proofs.Common.{◌≡◌, ◌∙◌, arith}
use Rattle.xs_layout.specs.Geometry.{components_of}
use Rattle.xs_stripe.specs.Joined.{raised_bands}
use Rattle.xs_stripe.proofs.Steps.{made_more}
use Rattle.xs_stripe.proofs.lines.new_joiners.Goals as goal

pub components-preserved : goal.components-preserved
components-preserved c =
    let h = c.args.header.now in
    made_more h c.components.component c.components.joiners.items c.add_joiner.new.joiners.items c.in_ok-joiner.joiner c.components.invariant c.in_ok-add_joiner.ensures c.in_ok-joiner.ensures.state (λ coefficients. c.in_ok-joiner.ensures.holds (raised_bands h coefficients c.components.component))

pub returns-clause-state : goal.returns-clause-state
returns-clause-state c =
    let all : c.components.component ≡ components_of c.args.header.now.shape.format = omega (arith, c.components-test.false, c.components.auto.component-end, c.from-component-end.ensures, c.component_count.ensures) in
    record { many = c.components.invariant.many ∙ all; each = λ component other there. c.components.invariant.state component other (omega (arith, there, all)) }

pub returns-clause-holds : goal.returns-clause-holds
returns-clause-holds c rows component other there =
    let all : c.components.component ≡ components_of c.args.header.now.shape.format = omega (arith, c.components-test.false, c.components.auto.component-end, c.from-component-end.ensures, c.component_count.ensures) in
    c.components.invariant.holds rows component other (omega (arith, there, all))
