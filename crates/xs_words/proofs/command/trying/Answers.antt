use Rattle.std.proofs.Common.{◌≡◌, None, Some, map, refl, ap, sym, ◌∙◌}
use Rattle.std.specs.Option.{option_map}
use Rattle.std.specs.Result.{result_err}
use Rattle.std.specs.String.{string_bytes}
use Rattle.xs_lists.specs.First.{first_of}
use Rattle.xs_params.specs.Check.{setting_refusals}
use Rattle.xs_params.specs.declared.settings.Settings.{Settings}
use Rattle.xs_words.specs.Command.{trial_settings_of}
use Rattle.xs_words.specs.Narrow.{as_asked, narrowed}
use Rattle.xs_words.proofs.Asked.{narrowed_same, refused_as_asked}
use Rattle.xs_words.proofs.command.trying.Goals as goal

pub returns-in-Ok-clause-refused : goal.returns-in-Ok-clause-refused
returns-in-Ok-clause-refused c =
    let s = trial_settings_of (map string_bytes c.args.words.now) in
    let none : None ≡ first_of (setting_refusals (narrowed s)) =
    sym (ap result_err c.in-Ok.is) ∙ c.check.ensures.first ∙ ap (λ (t : Settings). first_of (setting_refusals t)) c.trial_settings_of.ensures in
    ap (option_map (as_asked s)) none ∙ sym (refused_as_asked s)

pub returns-in-Ok-clause-asked : goal.returns-in-Ok-clause-asked
returns-in-Ok-clause-asked c =
    let s = trial_settings_of (map string_bytes c.args.words.now) in
    let none : first_of (setting_refusals (narrowed s)) ≡ None =
    sym (sym (ap result_err c.in-Ok.is) ∙ c.check.ensures.first ∙ ap (λ (t : Settings). first_of (setting_refusals t)) c.trial_settings_of.ensures) in
    let same : c.in-Ok.settings ≡ s = c.in-Ok.ensures.kept ∙ c.trial_settings_of.ensures ∙ narrowed_same s refl none in
    cc (same, c.trial_number.ensures)

pub returns-in-Err-clause-refused : goal.returns-in-Err-clause-refused
returns-in-Err-clause-refused c =
    let s = trial_settings_of (map string_bytes c.args.words.now) in
    let first : Some c.in-Err.setting ≡ first_of (setting_refusals (narrowed s)) =
    sym (ap result_err c.in-Err.is) ∙ c.check.ensures.first ∙ ap (λ (t : Settings). first_of (setting_refusals t)) c.trial_settings_of.ensures in
    ap Some c.trial_as_asked.ensures ∙ ap (option_map (as_asked s)) first ∙ sym (refused_as_asked s)
