use Rattle.std.proofs.Common.{◌≡◌, ◌+◌, ◌<◌, length, Some, None, sym, ap, subst, ◌∙◌, arith, rules}
use Rattle.std.specs.Prelude.{IfSome}
use Rattle.std.specs.Result.{result_err}
use Rattle.xs_markers.specs.Reading.{segments_from}
use Rattle.xs_markers.specs.Seen.{IsLimited}
use Rattle.xs_markers.specs.Segments.{segment_kind, segment_body, segment_end, rules_of, with_segment}
use Rattle.xs_markers.specs.Values.{fields_fault}
use Rattle.xs_markers.proofs.OneStep.{start_refused, started, start_there, step_end, step_fault, step_on, fault_of_code, fault_of_size, fault_of_fields}
use Rattle.xs_markers.proofs.Refusals.{err_told}
use Rattle.xs_markers.proofs.segments.segments_of.Goals as goal

pub returns-in_err-want_start-clause-seen : goal.returns-in_err-want_start-clause-seen
returns-in_err-want_start-clause-seen c =
    let fault : result_err c.from_residual.result ≡ Some c.in_err-want_start.field-0.0 = search rules in
    err_told c.from_residual.result c.in_err-want_start.field-0.0 fault ∙ sym (start_refused c.args.bytes.now c.in_err-want_start.field-0.0 c.in_err-want_start.ensures.first)

pub segments-init : goal.segments-init
segments-init c =
    let bytes = c.args.bytes.now in
    record {
      within = (start_there bytes (sym c.in_ok-want_start.ensures.first)).0;
      limited = subst (λ s. IfSome s.picture IsLimited) (sym c.nothing-seen.ensures.nothing) tt;
      rest = (length bytes, omega arith, ap (segments_from (length bytes) bytes 2) c.nothing-seen.ensures.nothing ∙ sym (started bytes c.in_ok-want_start.ensures.first));
    }

pub returns-in_err-kind-clause-seen : goal.returns-in_err-kind-clause-seen
returns-in_err-kind-clause-seen c =
    let bytes = c.args.bytes.now in
    let rest = c.segments.invariant.rest in
    let fault : result_err c.from_residual-in_err-kind.result ≡ Some c.in_err-kind.field-0.0 = search rules in
    err_told c.from_residual-in_err-kind.result c.in_err-kind.field-0.0 fault
    ∙ sym (step_fault rest.0 bytes c.segments.place c.segments.seen c.in_err-kind.field-0.0 rest.1 c.segments.invariant.within (sym c.is_end.ensures ∙ c.segments-test.true)
    (fault_of_code bytes c.segments.place c.segments.seen c.in_err-kind.field-0.0 c.in_err-kind.ensures.first)) ∙ rest.2

pub returns-in_err-body-clause-seen : goal.returns-in_err-body-clause-seen
returns-in_err-body-clause-seen c =
    let bytes = c.args.bytes.now in
    let rest = c.segments.invariant.rest in
    let fault : result_err c.from_residual-in_err-body.result ≡ Some c.in_err-body.field-0.0 = search rules in
    err_told c.from_residual-in_err-body.result c.in_err-body.field-0.0 fault
    ∙ sym (step_fault rest.0 bytes c.segments.place c.segments.seen c.in_err-body.field-0.0 rest.1 c.segments.invariant.within (sym c.is_end.ensures ∙ c.segments-test.true)
    (fault_of_size bytes c.segments.place c.segments.seen c.in_err-body.field-0.0 c.in_ok-kind.ensures.first c.in_err-body.ensures.first)) ∙ rest.2

pub returns-in_err-seen-clause-seen : goal.returns-in_err-seen-clause-seen
returns-in_err-seen-clause-seen c =
    let bytes = c.args.bytes.now in
    let seen = c.segments.seen in
    let rest = c.segments.invariant.rest in
    let fault : result_err c.from_residual-in_err-seen.result ≡ Some c.in_err-seen.field-0.0 = search rules in
    let fields = c.in_err-seen.ensures.first ∙ ap (λ k. fields_fault (rules_of seen k c.in_ok-body.body.now)) c.in_ok-kind.ensures.kind ∙ ap (λ b. fields_fault (rules_of seen (segment_kind bytes c.segments.place) b)) c.in_ok-body.ensures.body in
    err_told c.from_residual-in_err-seen.result c.in_err-seen.field-0.0 fault
    ∙ sym (step_fault rest.0 bytes c.segments.place seen c.in_err-seen.field-0.0 rest.1 c.segments.invariant.within (sym c.is_end.ensures ∙ c.segments-test.true)
    (fault_of_fields bytes c.segments.place seen (Some c.in_err-seen.field-0.0) c.in_ok-kind.ensures.first c.in_ok-body.ensures.first fields)) ∙ rest.2

pub segments-preserved : goal.segments-preserved
segments-preserved c =
    let bytes = c.args.bytes.now in
    let place = c.segments.place in
    let seen = c.segments.seen in
    let rest = c.segments.invariant.rest in
    let fields = c.in_ok-seen.ensures.first ∙ ap (λ k. fields_fault (rules_of seen k c.in_ok-body.body.now)) c.in_ok-kind.ensures.kind ∙ ap (λ b. fields_fault (rules_of seen (segment_kind bytes place) b)) c.in_ok-body.ensures.body in
    let on = step_on rest.0 bytes place seen rest.1 c.segments.invariant.within (sym c.is_end.ensures ∙ c.segments-test.true)
    (fault_of_fields bytes place seen None c.in_ok-kind.ensures.first c.in_ok-body.ensures.first fields) in
    let more : c.in_ok-seen.seen ≡ with_segment seen (segment_kind bytes place) (segment_body bytes place) (place + 4) =
    c.in_ok-seen.ensures.seen ∙ ap (λ k. with_segment seen k c.in_ok-body.body.now (place + 4)) c.in_ok-kind.ensures.kind ∙ ap (λ b. with_segment seen (segment_kind bytes place) b (place + 4)) c.in_ok-body.ensures.body in
    let sum : place + (4 + length c.in_ok-body.body.now) ≡ place + 4 + length c.in_ok-body.body.now = omega arith in
    let next : place + (4 + length c.in_ok-body.body.now) ≡ segment_end bytes place = sum ∙ c.in_ok-body.ensures.next in
    record {
      within = omega (arith, c.in_ok-body.ensures.whole);
      limited = c.in_ok-seen.ensures.limited;
      rest = (
        on.fewer,
        subst (λ n. length bytes < on.fewer + n) (sym next) on.enough,
        ap (λ n. segments_from on.fewer bytes n c.in_ok-seen.seen) next ∙ ap (segments_from on.fewer bytes (segment_end bytes place)) more ∙ sym on.same ∙ rest.2,
      );
    }

pub returns-clause-seen : goal.returns-clause-seen
returns-clause-seen c =
    let rest = c.segments.invariant.rest in
    sym (step_end rest.0 c.args.bytes.now c.segments.place c.segments.seen rest.1 c.segments.invariant.within (sym c.is_end.ensures ∙ c.segments-test.false)) ∙ rest.2
