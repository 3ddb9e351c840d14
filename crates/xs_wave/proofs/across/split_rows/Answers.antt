use Rattle.std.proofs.Common.{◌≡◌, ◌*◌, ◌^◌, get_or, [], arith, ap, ◌∙◌}
use Rattle.xs_signal.specs.Lines.{entries_of}
use Rattle.xs_signal.specs.Wavelet.{low_count, high_count, low_of, high_of}
use Rattle.xs_wave.specs.Planes.{plane_of}
use Rattle.xs_wave.specs.Corners.{rows_by}
use Rattle.xs_wave.proofs.Fronts.{far_down, not_too_far}
use Rattle.xs_wave.proofs.Values.{below_same}
use Rattle.xs_wave.proofs.Written.{row_more}
use Rattle.xs_wave.proofs.across.split_rows.Goals as goal

pub place_of-requires : goal.place_of-requires
place_of-requires c = not_too_far c.args.step c.loop-at.at c.requires.near (omega (arith, c.loop-at-test.true, c.requires.most))

pub split_row_in-requires-clause-small : goal.split_row_in-requires-clause-small
split_row_in-requires-clause-small c column within =
    let a = c.loop-at.at in
    let from = c.args.step * a in
    let same : get_or c.loop-at.plane c.place_of.result [] ≡ get_or c.args.plane.now from [] =
    ap (λ k. get_or c.loop-at.plane k []) c.place_of.ensures ∙ c.loop-at.invariant.rest from (far_down c.args.step a c.requires.step) in
    below_same (2 ^ 50) _ _ (ap (λ r. entries_of r column) same) (c.requires.small a c.loop-at-test.true column within)

pub loop-at-preserved : goal.loop-at-preserved
loop-at-preserved c =
    let i = c.loop-at.invariant in
    let a = c.loop-at.at in
    let w = c.args.width in
    let from = c.args.step * a in
    let p = rows_by c.args.step (plane_of c.args.plane.now) in
    let next = c.split_row_in.ensures in
    let same : get_or c.loop-at.plane c.place_of.result [] ≡ get_or c.args.plane.now from [] =
    ap (λ k. get_or c.loop-at.plane k []) c.place_of.ensures ∙ i.rest from (far_down c.args.step a c.requires.step) in
    record {
      lows = row_more c.loop-at.plane c.split_row_in.new.plane (λ row. low_of w (p row)) a (low_count w) (λ column within. next.low column within ∙ ap (λ r. low_of w (entries_of r) column) same)
          (λ row less. next.others row (λ e. omega (arith, less, e))) i.lows;
      highs = row_more c.loop-at.high c.split_row_in.new.high (λ row. high_of w (p row)) a (high_count w) (λ column within. next.high column within ∙ ap (λ r. high_of w (entries_of r) column) same)
          (λ row less. next.high_others row (λ e. omega (arith, less, e))) i.highs;
      rest = λ row past. next.others row (λ e. omega (arith, past, e)) ∙ i.rest row (omega (arith, past));
      shape = record { many = next.shape.many ∙ i.shape.many; widths = λ row. next.shape.widths row ∙ i.shape.widths row };
      high_shape = record { many = next.high_shape.many ∙ i.high_shape.many; widths = λ row. next.high_shape.widths row ∙ i.high_shape.widths row };
      line = c.split_row_in.auto.line ∙ i.line;
    }
