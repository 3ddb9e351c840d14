use Rattle.std.proofs.Common.{◌*◌, ◌^◌, ◌+ℤ◌, arith, ap, ◌∙◌}
use Rattle.xs_signal.specs.Lines.{column_of, entries_of}
use Rattle.xs_signal.specs.Wavelet.{high_of, updated}
use Rattle.xs_signal.proofs.LineLaws.{updated_same}
use Rattle.xs_wave.specs.Planes.{plane_of}
use Rattle.xs_wave.specs.Corners.{odd_rows}
use Rattle.xs_wave.proofs.Bounds.{high_small}
use Rattle.xs_wave.proofs.Values.{below_same}
use Rattle.xs_wave.proofs.columns.split_columns.Goals as goal

pub split_even_rows-requires-clause-small_odd : goal.split_even_rows-requires-clause-small_odd
split_even_rows-requires-clause-small_odd c row inside column within =
    below_same (2 * 2 ^ 50) _ _ (c.split_odd_rows.ensures.high row column inside within)
    (high_small (2 ^ 50) c.args.height (column_of (plane_of c.args.plane.now) column) (omega arith) (λ k less. c.requires.small k less column within) row inside)

pub returns-clause-low : goal.returns-clause-low
returns-clause-low c row column inside within =
    let n = c.args.height in
    let p = plane_of c.args.plane.now in
    let high = column_of (odd_rows (plane_of c.split_odd_rows.new.plane)) column in
    let same = updated_same n row high (high_of n (column_of p column)) c.requires.two (omega (arith, inside)) (λ j less. c.split_odd_rows.ensures.high j column less within) in
    c.split_even_rows.ensures.low row column inside within ∙ ap (λ z. z +ℤ updated n high row) (ap (λ r. entries_of r column) (c.split_odd_rows.ensures.even row)) ∙ ap (λ z. p (2 * row) column +ℤ z) same
