use Rattle.std.proofs.Common.{rules, ◌≡◌, true, false, map, ap, sym, ◌∙◌, bytes_eq, codes}
use Rattle.std.specs.String.{string_bytes}
use Rattle.xs_lists.specs.First.{first_of}
use Rattle.xs_words.specs.Refusal.{refused_settings}
use Rattle.xs_words.specs.Words.{word_in}
use Rattle.xs_words.specs.declared.command.Command.{Command}
use Rattle.xs_words.proofs.Commands.{encode_asked, trial_asked}
use Rattle.xs_words.proofs.command.asked.Goals as goal

pub returns-in-encode-clause-refused : goal.returns-in-encode-clause-refused
returns-in-encode-clause-refused c =
    let words = map string_bytes c.args.words.now in
    let encode : bytes_eq (word_in words 0) (codes "encode") ≡ true = search rules in
    c.encoding.ensures.refused ∙ ap (λ (asked : Command). first_of (refused_settings words asked)) (sym (encode_asked words encode))

pub returns-in_default-clause-refused : goal.returns-in_default-clause-refused
returns-in_default-clause-refused c =
    let words = map string_bytes c.args.words.now in
    let encode : bytes_eq (word_in words 0) (codes "encode") ≡ false = search rules in
    let decode : bytes_eq (word_in words 0) (codes "decode") ≡ false = search rules in
    c.trying.ensures.refused ∙ ap (λ (asked : Command). first_of (refused_settings words asked)) (sym (trial_asked words encode decode))
