use Rattle.std.proofs.Common.{◌≡◌, ℕ, ◌+◌, ◌<◌, suc, length, Some, refl, sym, ap, subst, ◌∙◌, arith, rules}
use Rattle.std.specs.Result.{result_err, result_unwrap_or}
use Rattle.xs_markers.specs.Units.{boxes_from}
use Rattle.xs_markers.proofs.OneStep.{box_end, box_refused, box_on}
use Rattle.xs_markers.proofs.boxes.skip_boxes.Goals as goal

pub boxes-init : goal.boxes-init
boxes-init c = record { within = omega arith; rest = (suc (length c.args.bytes.now), omega arith, refl) }

pub returns-in_err-place-clause-first : goal.returns-in_err-place-clause-first
returns-in_err-place-clause-first c =
    let bytes = c.args.bytes.now in
    let rest = c.boxes.invariant.rest in
    let fault : result_err c.from_residual.result ≡ Some c.in_err-place.field-0.0 = search rules in
    fault ∙ sym (ap result_err (sym rest.2 ∙ box_refused rest.0 bytes c.boxes.place c.in_err-place.field-0.0 rest.1 c.boxes.invariant.within (sym c.is_start.ensures ∙ c.boxes-test.true) c.in_err-place.ensures.first))

pub boxes-preserved : goal.boxes-preserved
boxes-preserved c =
    let bytes = c.args.bytes.now in
    let rest = c.boxes.invariant.rest in
    let size = c.in_ok-place.ensures.length in
    let on = box_on rest.0 bytes c.boxes.place rest.1 c.boxes.invariant.within (sym c.is_start.ensures ∙ c.boxes-test.true) c.in_ok-place.ensures.first (omega (arith, size, c.in_ok-place.ensures.some)) in
    record {
      within = omega (arith, c.in_ok-place.ensures.whole);
      rest = subst (λ n. (steps : ℕ) × (length bytes < steps + (c.boxes.place + n)) × (boxes_from steps bytes (c.boxes.place + n) ≡ boxes_from (suc (length bytes)) bytes 0)) (sym size) (on.fewer, on.enough, sym on.same ∙ rest.2);
    }

pub returns-clause-first : goal.returns-clause-first
returns-clause-first c =
    let rest = c.boxes.invariant.rest in
    ap result_err (sym (box_end rest.0 c.args.bytes.now c.boxes.place rest.1 c.boxes.invariant.within (sym c.is_start.ensures ∙ c.boxes-test.false)) ∙ rest.2)

pub returns-clause-end : goal.returns-clause-end
returns-clause-end c =
    let rest = c.boxes.invariant.rest in
    ap (λ r. result_unwrap_or r 0) (sym (box_end rest.0 c.args.bytes.now c.boxes.place rest.1 c.boxes.invariant.within (sym c.is_start.ensures ∙ c.boxes-test.false)) ∙ rest.2)
