use Rattle.std.proofs.Common.{rules, ◌∙◌, ◌-◌, ap, sym, length, map, tests, arith}
use Rattle.std.specs.List.{find, range_with_len}
use Rattle.std.proofs.lemmas.Iterator.{YieldsList-from_range}
use Rattle.std.proofs.lemmas.Iterator.Adapters.{option_map_id}
use Rattle.std.proofs.lemmas.Iterator.Search.{find_from_yields_List}
use Rattle.std.proofs.lemmas.List.{length-map}
use Rattle.std.specs.String.{string_bytes}
use Rattle.xs_words.specs.Options.{rows_of}
use Rattle.xs_words.specs.Words.{is_bad_word}
use Rattle.xs_words.proofs.grammar.first_bad_word.Goals as goal

pub returns : goal.returns
returns c =
    let words = map string_bytes c.args.words.now in
    let table = rows_of c.args.options.now in
    let size = length c.args.words.now in
    let found = find_from_yields_List (is_bad_word table words) _ _ c.find.result c.find.ensures.ran (YieldsList-from_range 1 size (size - 1) (cc) (omega arith)) (λ x b q k. search (rules, tests)) in
    sym (option_map_id c.find.result) ∙ found ∙ ap (λ n. find (is_bad_word table words) (range_with_len 1 (n - 1))) (sym (length-map c.args.words.now string_bytes))
