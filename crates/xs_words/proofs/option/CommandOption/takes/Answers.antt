use Rattle.std.proofs.Common.{◌∙◌, ap, sym}
use Rattle.xs_words.specs.Options.{row_of_option}
use Rattle.xs_words.specs.Words.{is_value}
use Rattle.xs_words.specs.declared.option.CommandOption.{CommandOption}
use Rattle.xs_words.proofs.Rows.{any_words}
use Rattle.xs_words.proofs.option.CommandOption.takes.Goals as goal

pub returns-in-Choice : goal.returns-in-Choice
returns-in-Choice c =
    c.contains.ensures.value ∙ any_words c.in-Choice.words.now c.args.value.now
    ∙ sym (ap (λ (o : CommandOption). is_value (row_of_option o).kind c.args.value.now) c.in-Choice.is)
