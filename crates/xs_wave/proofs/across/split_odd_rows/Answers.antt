use Rattle.std.proofs.Common.{arith, ◌∙◌}
use Rattle.xs_signal.specs.Wavelet.{low_count, high_count, low_of, high_of}
use Rattle.xs_wave.specs.Planes.{plane_of}
use Rattle.xs_wave.specs.Corners.{odd_rows}
use Rattle.xs_wave.proofs.Written.{row_more}
use Rattle.xs_wave.proofs.across.split_odd_rows.Goals as goal

pub loop-at-preserved : goal.loop-at-preserved
loop-at-preserved c =
    let i = c.loop-at.invariant in
    let p = odd_rows (plane_of c.args.plane.now) in
    let w = c.args.width in
    let next = c.split_row.ensures in
    record {
      lows = row_more c.loop-at.low c.split_row.new.low (λ row. low_of w (p row)) c.loop-at.at (low_count w) next.low (λ row less. next.low_others row (λ e. omega (arith, less, e))) i.lows;
      highs = row_more c.loop-at.high c.split_row.new.high (λ row. high_of w (p row)) c.loop-at.at (high_count w) next.high (λ row less. next.high_others row (λ e. omega (arith, less, e))) i.highs;
      low_shape = record { many = next.low_shape.many ∙ i.low_shape.many; widths = λ row. next.low_shape.widths row ∙ i.low_shape.widths row };
      high_shape = record { many = next.high_shape.many ∙ i.high_shape.many; widths = λ row. next.high_shape.widths row ∙ i.high_shape.widths row };
    }

pub returns-clause-low : goal.returns-clause-low
returns-clause-low c row column inside within = c.loop-at.invariant.lows row column (omega (arith, inside, c.loop-at-test.false)) within
