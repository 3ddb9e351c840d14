use Rattle.std.proofs.Common.{rules, ◌∙◌, map, tests}
use Rattle.std.proofs.lemmas.Iterator.{YieldsList-from_slice}
use Rattle.std.proofs.lemmas.Iterator.Search.{any_from_yields_List}
use Rattle.std.specs.String.{string_bytes}
use Rattle.xs_words.specs.Options.{row_of_option}
use Rattle.xs_words.specs.Words.{is_missing}
use Rattle.xs_words.specs.declared.option.CommandOption.{CommandOption}
use Rattle.xs_words.proofs.Rows.{any-map}
use Rattle.xs_words.proofs.grammar.lacks_option.Goals as goal

pub returns : goal.returns
returns c =
    let words = map string_bytes c.args.words.now in
    let options = c.args.options.now in
    any_from_yields_List (λ (option : CommandOption). is_missing words (row_of_option option)) _ _ c.any.result c.any.ensures.ran (YieldsList-from_slice options (cc)) (λ x b q k. search (rules, tests))
    ∙ any-map row_of_option (is_missing words) options
