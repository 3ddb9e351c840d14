use Rattle.std.proofs.Common.{◌+ℤ◌, length, arith, ap, subst, ◌∙◌}
use Rattle.std.specs.Int.{int_shr}
use Rattle.xs_signal.specs.Lines.{entries_of, Shows}
use Rattle.xs_joiner.proofs.Lifted.{give_odd, give_last}
use Rattle.xs_joiner.proofs.columns.Columns.give.Goals as goal

pub returns-then-number-even-2-clause-shows : goal.returns-then-number-even-2-clause-shows
returns-then-number-even-2-clause-shows c start t r h from =
    give_odd start c.args.number t r c.args.self.now c.copy_from-then-number-even-2.new.self h c.requires.known from (omega (arith, c.if-number-even-2.true)) (c.copy_from-then-number-even-2.ensures ∙ c.as_slice-then-number-even-2.ensures)

pub returns-else-number-even-2-clause-shows : goal.returns-else-number-even-2-clause-shows
returns-else-number-even-2-clause-shows c start t r h from =
    let old = c.args.self.now in
    let copied = c.copy_from-else-number-even-2.ensures ∙ c.as_slice-else-number-even-2.ensures in
    give_last start c.args.number t r old c.predict.new.self c.requires.state h c.requires.known from (omega (arith, c.if-number-even.false, c.if-number-even-2.false)) (c.predict.ensures.width ∙ ap length copied ∙ c.requires.state.high_width)
    (subst (λ l. Shows c.predict.new.self (λ k. entries_of l k +ℤ int_shr (entries_of old.even k +ℤ entries_of old.even k) 1)) copied c.predict.ensures.entries)
