use Rattle.std.proofs.Common.{rules, ◌∙◌, ap, subst, sym, ℕ, ◌<◌, length, map, tests, Option, arith}
use Rattle.std.specs.Prelude.{IfSome}
use Rattle.std.specs.List.{find, range_with_len}
use Rattle.std.proofs.lemmas.Iterator.{YieldsList-from_range}
use Rattle.std.proofs.lemmas.Iterator.Adapters.{option_map_id}
use Rattle.std.proofs.lemmas.Iterator.Search.{find_from_yields_List}
use Rattle.std.proofs.lemmas.List.{length-map}
use Rattle.std.specs.String.{string_bytes}
use Rattle.xs_words.specs.Words.{is_name_at}
use Rattle.xs_words.proofs.Places.{found_below}
use Rattle.xs_words.proofs.grammar.name_place.Goals as goal

pub returns : goal.returns
returns c =
    let words = map string_bytes c.args.words.now in
    let name = c.args.name.now in
    let size = length c.args.words.now in
    let found = find_from_yields_List (is_name_at words name) _ _ c.find.result c.find.ensures.ran (YieldsList-from_range 0 size size (cc) (omega arith)) (λ x b q k. search (rules, tests)) in
    let same = sym (option_map_id c.find.result) ∙ found in
    record {
      place = same ∙ ap (λ n. find (is_name_at words name) (range_with_len 0 n)) (sym (length-map c.args.words.now string_bytes));
      within = subst (λ (o : Option ℕ). IfSome o (λ place. place < size)) (sym same) (found_below (is_name_at words name) size);
    }
