use Rattle.std.proofs.Common.{rules, ◌∙◌, ap, tests, bytes_eq}
use Rattle.std.proofs.lemmas.Iterator.{YieldsList-from_slice}
use Rattle.std.proofs.lemmas.Iterator.Search.{find_from_yields_List}
use Rattle.std.specs.Option.{option_map}
use Rattle.xs_words.specs.Options.{row_of_option}
use Rattle.xs_words.specs.declared.option.CommandOption.{CommandOption}
use Rattle.xs_words.proofs.Rows.{option_named, copied_is}
use Rattle.xs_words.proofs.option.option_named.Goals as goal

pub returns : goal.returns
returns c =
    let options = c.args.options.now in
    let word = c.args.word.now in
    let found = find_from_yields_List (λ (o : CommandOption). bytes_eq word (row_of_option o).name) _ _ c.find.result c.find.ensures.ran (YieldsList-from_slice options cc) (λ x b q k. search (rules, tests)) in
    ap (option_map row_of_option) (c.copied.ensures ∙ copied_is c.find.result ∙ found) ∙ option_named options word
