use Rattle.std.proofs.Common.{rules, map, tests, arith}
use Rattle.std.proofs.lemmas.Iterator.{YieldsList-from_range}
use Rattle.std.proofs.lemmas.Iterator.Search.{any_from_yields_List}
use Rattle.std.specs.String.{string_bytes}
use Rattle.xs_words.specs.Words.{is_name_at}
use Rattle.xs_words.proofs.grammar.is_named_before.Goals as goal

pub returns : goal.returns
returns c =
    let words = map string_bytes c.args.words.now in
    any_from_yields_List (is_name_at words c.args.word.now) _ _ c.any.result c.any.ensures.ran (YieldsList-from_range 0 c.args.place c.args.place (cc) (omega arith)) (λ x b q k. search (rules, tests))
