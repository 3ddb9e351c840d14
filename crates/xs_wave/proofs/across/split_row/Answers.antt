use Rattle.std.proofs.Common.{length, arith, ap, ◌∙◌}
use Rattle.xs_signal.specs.Lines.{entries_of}
use Rattle.xs_signal.specs.Wavelet.{low_of, high_of}
use Rattle.xs_wave.proofs.Lent.{lent_here, lent_other, lent_shape}
use Rattle.xs_wave.proofs.across.split_row.Goals as goal

pub returns-clause-low : goal.returns-clause-low
returns-clause-low c column within =
    let same = c.split_front.auto.low ∙ ap length c.line_mut.ensures.value in
    ap (λ r. entries_of r column) (lent_here c.args.low.now c.args.at c.split_front.new.low c.requires.low_at same) ∙ c.split_front.ensures.low column (omega (arith, within, same, c.requires.lows))
    ∙ ap (λ r. low_of c.args.width (entries_of r) column) c.line.ensures

pub returns-clause-low_others : goal.returns-clause-low_others
returns-clause-low_others c = lent_other c.args.low.now c.args.at c.split_front.new.low c.requires.low_at (c.split_front.auto.low ∙ ap length c.line_mut.ensures.value)

pub returns-clause-low_shape : goal.returns-clause-low_shape
returns-clause-low_shape c = lent_shape c.args.low.now c.args.at c.split_front.new.low c.requires.low_at (c.split_front.auto.low ∙ ap length c.line_mut.ensures.value)

pub returns-clause-high : goal.returns-clause-high
returns-clause-high c column within =
    let same = c.split_front.auto.high ∙ ap length c.line_mut-2.ensures.value in
    ap (λ r. entries_of r column) (lent_here c.args.high.now c.args.at c.split_front.new.high c.requires.high_at same) ∙ c.split_front.ensures.high column (omega (arith, within, same, c.requires.highs))
    ∙ ap (λ r. high_of c.args.width (entries_of r) column) c.line.ensures

pub returns-clause-high_others : goal.returns-clause-high_others
returns-clause-high_others c = lent_other c.args.high.now c.args.at c.split_front.new.high c.requires.high_at (c.split_front.auto.high ∙ ap length c.line_mut-2.ensures.value)

pub returns-clause-high_shape : goal.returns-clause-high_shape
returns-clause-high_shape c = lent_shape c.args.high.now c.args.at c.split_front.new.high c.requires.high_at (c.split_front.auto.high ∙ ap length c.line_mut-2.ensures.value)
