use Rattle.std.proofs.Common.{◌≡◌, ◌≤◌, map, ℕ, List, Option, Some, Bor, ap, subst, sym, ◌∙◌}
use Rattle.std.specs.Prelude.{IfSome}
use Rattle.std.specs.Option.{option_map}
use Rattle.std.specs.String.{string_bytes}
use Rattle.xs_words.specs.Options.{rows_of}
use Rattle.xs_words.specs.Words.{table_of, word_in}
use Rattle.xs_words.specs.declared.option.CommandOption.{CommandOption}
use Rattle.xs_words.proofs.Bound.{near}
use Rattle.xs_words.proofs.grammar.bad_place.Goals as goal

pub returns-in-Some-clause-near : goal.returns-in-Some-clause-near
returns-in-Some-clause-near c =
    let words = map string_bytes c.args.words.now in
    let options = c.in-Some.options.now in
    let table : table_of (word_in words 0) ≡ Some (rows_of options) =
    ap table_of (sym c.word_in.ensures) ∙ sym c.table_of.ensures ∙ ap (option_map (λ (o : Bor (List CommandOption)). rows_of o.now)) c.in-Some.is in
    subst (λ (o : Option ℕ). IfSome o (λ place. place ≤ 43)) (sym c.bad_place_after.ensures) (near words (rows_of options) table)
