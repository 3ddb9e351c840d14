use Rattle.std.proofs.Common.{◌≡◌, ◌<◌, Some, sym, ap, ◌∙◌, arith, rules}
use Rattle.std.specs.Result.{result_err}
use Rattle.xs_markers.specs.Values.{fields_fault}
use Rattle.xs_markers.proofs.TakenTable.{component_past, component_in}
use Rattle.xs_markers.proofs.components.first_refused_component.Goals as goal

pub returns-in_err-first_refused : goal.returns-in_err-first_refused
returns-in_err-first_refused c =
    let p = c.args.picture.now in
    let body = c.args.body.now in
    let first = c.components.component in
    let some : first < p.nc = omega (arith, c.components-test.true, c.from-component-end.ensures) in
    let fault : result_err c.from_residual.result ≡ Some c.in_err-first_refused.field-0.0 = search rules in
    record {
      first = fault ∙ sym (component_in p body first p.nc c.in_err-first_refused.field-0.0 some (ap fields_fault (sym c.component_rules.ensures.rules) ∙ sym c.in_err-first_refused.ensures.first)) ∙ c.components.invariant;
    }

pub components-preserved : goal.components-preserved
components-preserved c =
    let p = c.args.picture.now in
    let body = c.args.body.now in
    let first = c.components.component in
    let some : first < p.nc = omega (arith, c.components-test.true, c.from-component-end.ensures) in
    sym (component_past p body first p.nc some (ap fields_fault (sym c.component_rules.ensures.rules) ∙ sym c.in_ok-first_refused.ensures.first)) ∙ c.components.invariant
