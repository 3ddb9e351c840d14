use Rattle.std.proofs.Common.{rules, ◌≡◌, ◌∙◌, ◌<◌, true, false, arith, length}
use Rattle.std.proofs.lemmas.Str.Parse.{parse_digits}
use Rattle.std.specs.Str.{all_ascii_digits}
use Rattle.xs_words.proofs.Digits.{decimal, is_number-no_digits, is_number-too_long, number_parsed}
use Rattle.xs_words.proofs.option.number.Goals as goal
use Rattle.xs_words.proofs.option.number.Goals.{then-word-gt10-via-then-word-gt10, then-word-gt10-via-else-word-gt10+then-not-has_only_digits}

pub returns-then-word-gt10 : goal.returns-then-word-gt10
returns-then-word-gt10 c =
    let word = c.args.word.now in
    elim c.then-word-gt10.branch [
      | then-word-gt10-via-then-word-gt10 w ↦ let long : 10 < length word = search rules in rw (is_number-too_long word long)
      | then-word-gt10-via-else-word-gt10+then-not-has_only_digits w ↦ let none : all_ascii_digits word ≡ false = search rules in rw (is_number-no_digits word none)
    ]

pub returns : goal.returns
returns c =
    let word = c.args.word.now in
    let digits : all_ascii_digits word ≡ true = search rules in
    c.ok.ensures.value ∙ number_parsed word c.parse.result (omega arith) digits (parse_digits decimal 32 word c.parse.result c.parse.ensures.value.0 digits)
