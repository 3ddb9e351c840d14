use Rattle.std.proofs.Common.{◌∙◌, ap, sym, map, length}
use Rattle.std.specs.Bool.{then_some}
use Rattle.std.specs.String.{string_bytes}
use Rattle.std.proofs.lemmas.List.{length-map}
use Rattle.xs_words.specs.Options.{rows_of}
use Rattle.xs_words.specs.Words.{end_early}
use Rattle.xs_words.proofs.Places.{or_end}
use Rattle.xs_words.proofs.BadPlace.{place_after_command, then_some_is}
use Rattle.xs_words.proofs.grammar.bad_place_after.Goals as goal

pub returns-in-Some : goal.returns-in-Some
returns-in-Some c =
    let words = map string_bytes c.args.words.now in
    let table = rows_of c.args.options.now in
    ap (or_end (end_early table words) (length words)) (sym c.in-Some.is ∙ c.first_bad_word.ensures) ∙ sym (place_after_command words table c.requires)

pub returns-in-None : goal.returns-in-None
returns-in-None c =
    let words = map string_bytes c.args.words.now in
    let table = rows_of c.args.options.now in
    let early = end_early table words in
    let size = length-map c.args.words.now string_bytes in
    c.then_some.ensures ∙ ap (λ b. then_some b (length c.args.words.now)) c.ends_early.ensures ∙ ap (then_some early) (sym size) ∙ then_some_is early (length words)
    ∙ ap (or_end early (length words)) (sym c.in-None.is ∙ c.first_bad_word.ensures) ∙ sym (place_after_command words table c.requires)
