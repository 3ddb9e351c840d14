use Rattle.std.proofs.Common.{arith}
use Rattle.xs_samples.proofs.RowRanges.{rows_beyond, rows_within}
use Rattle.xs_samples.proofs.rows.RowRange.size.Goals as goal

pub returns-clause-end : goal.returns-clause-end
returns-clause-end c =
    rows_beyond c.args.shape.now c.args.self.component c.args.self.first c.args.self.end c.component_width-width.result c.sample_size.result c.component_width-width.ensures.width c.sample_size.ensures (omega (arith, c.requires.rows.some))

pub returns-clause-within : goal.returns-clause-within
returns-clause-within c = rows_within c.args.shape.now c.args.self c.requires.rows c.requires.component
