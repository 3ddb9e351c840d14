use Rattle.std.proofs.Common.{◌≡◌, sym, ap, ◌∙◌, rules, Some}
use Rattle.std.specs.Result.{result_err}
use Rattle.xs_markers.specs.Segments.{picture_fields_of}
use Rattle.xs_markers.specs.Values.{fields_fault, picture_rules}
use Rattle.xs_markers.proofs.Accepted.{limited_fields}
use Rattle.xs_markers.proofs.picture.PictureFields.read.Goals as goal

pub returns-in_err-first_refused-clause-first : goal.returns-in_err-first_refused-clause-first
returns-in_err-first_refused-clause-first c =
    let rows : c.rules.result ≡ picture_rules (picture_fields_of c.args.body.now) = c.rules.ensures.rules ∙ ap picture_rules c.of-picture.ensures.fields in
    let fault : result_err c.from_residual.result ≡ Some c.in_err-first_refused.field-0.0 = search rules in
    fault ∙ c.in_err-first_refused.ensures.first ∙ ap fields_fault rows

pub returns-clause-first : goal.returns-clause-first
returns-clause-first c =
    let rows : c.rules.result ≡ picture_rules (picture_fields_of c.args.body.now) = c.rules.ensures.rules ∙ ap picture_rules c.of-picture.ensures.fields in
    c.in_ok-first_refused.ensures.first ∙ ap fields_fault rows

pub returns-clause-limited : goal.returns-clause-limited
returns-clause-limited c =
    limited_fields c.of-picture.result (sym (c.in_ok-first_refused.ensures.first ∙ ap fields_fault c.rules.ensures.rules))
