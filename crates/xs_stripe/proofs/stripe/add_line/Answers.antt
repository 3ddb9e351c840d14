use Rattle.std.proofs.Common.{◌≡◌, ◌+◌, ◌-◌, length, ap, subst, ◌∙◌, arith}
use Rattle.xs_layout.specs.Geometry.{components_of}
use Rattle.xs_params.specs.declared.header.Header.{Header}
use Rattle.xs_stripe.proofs.Filled.{AreAdded, added_more, added_all}
use Rattle.xs_stripe.proofs.stripe.add_line.Goals as goal

pub components-preserved : goal.components-preserved
components-preserved c =
    let lines = c.args.lines.now in
    let e = c.in_ok-add_row.ensures.added in
    record {
      width = c.in_ok-add_row.ensures.scratch ∙ c.components.invariant.width;
      added = added_more lines.header.now lines (lines.given - 1) c.components.component c.args.rows.now c.components.rows c.add_row.new.rows e.0 c.components.invariant.added e.1 e.2;
    }

pub returns-clause-more : goal.returns-clause-more
returns-clause-more c =
    let same = ap (λ (x : Header). components_of x.shape.format) c.header.ensures in
    let all : c.components.component ≡ components_of c.args.lines.now.header.now.shape.format = omega (arith, c.components-test.false, c.components.auto.component-end, c.from-component-end.ensures, c.component_count.ensures, same) in
    c.components.invariant.added.count ∙ ap (λ n. length c.args.rows.now + n) all

pub returns-clause-decoded : goal.returns-clause-decoded
returns-clause-decoded c coefficients first holds some count before =
    let lines = c.args.lines.now in
    let same = ap (λ (x : Header). components_of x.shape.format) c.header.ensures in
    let all : c.components.component ≡ components_of lines.header.now.shape.format = omega (arith, c.components-test.false, c.components.auto.component-end, c.from-component-end.ensures, c.component_count.ensures, same) in
    added_all lines.header.now lines first lines.given c.args.rows.now c.components.rows coefficients
    (subst (λ k. AreAdded lines.header.now lines (lines.given - 1) k c.args.rows.now c.components.rows) all c.components.invariant.added) holds some count before
