use Rattle.std.proofs.Common.{◌*◌, ◌^◌, arith, ◌∙◌}
use Rattle.xs_signal.specs.Lines.{column_of}
use Rattle.xs_signal.specs.Wavelet.{low_of, high_of}
use Rattle.xs_wave.specs.Planes.{plane_of}
use Rattle.xs_wave.specs.Corners.{odd_rows, rows_by}
use Rattle.xs_wave.proofs.Bounds.{high_small, low_small}
use Rattle.xs_wave.proofs.Shown.{below_more}
use Rattle.xs_wave.proofs.Values.{below_same}
use Rattle.xs_wave.proofs.WithinLaws.{low_within, high_within}
use Rattle.xs_wave.proofs.analysis.split_part.Goals as goal

pub split_odd_rows-requires-clause-small : goal.split_odd_rows-requires-clause-small
split_odd_rows-requires-clause-small c row inside column within =
    let p = plane_of c.args.work.now in
    below_same (2 ^ 50) _ _ (c.split_columns.ensures.high row column inside within)
    (below_more (2 * 2 ^ 48) (2 ^ 50) _ (omega arith) (high_small (2 ^ 48) c.args.height (column_of p column) (omega arith) (λ k less. c.requires.small k less column within) row inside))

pub split_rows-requires-clause-small : goal.split_rows-requires-clause-small
split_rows-requires-clause-small c row inside column within =
    let p = plane_of c.args.work.now in
    below_same (2 ^ 50) _ _ (c.split_columns.ensures.low row column inside within)
    (below_more (2 * (2 * 2 ^ 48)) (2 ^ 50) _ (omega arith) (low_small (2 ^ 48) c.args.height (column_of p column) (omega arith) c.requires.two_rows (λ k less. c.requires.small k less column within) row inside))

pub returns-clause-quarters : goal.returns-clause-quarters
returns-clause-quarters c =
    let width = c.args.width in
    let height = c.args.height in
    let p = plane_of c.args.work.now in
    let split = plane_of c.split_columns.new.plane in
    let two = c.requires.two_columns in
    record {
      hl_size = c.split_rows.ensures.size;
      lh_size = c.split_odd_rows.ensures.low_size;
      hh_size = c.split_odd_rows.ensures.high_size;
      ll = λ row column inside within. c.split_rows.ensures.low row column inside within
          ∙ low_within width (rows_by 2 split row) (λ k. low_of height (column_of p k) row) two (λ k less. c.split_columns.ensures.low row k inside less) column within;
      hl = λ row column inside within. c.split_rows.ensures.high row column inside within
          ∙ high_within width (rows_by 2 split row) (λ k. low_of height (column_of p k) row) (λ k less. c.split_columns.ensures.low row k inside less) column within;
      lh = λ row column inside within. c.split_odd_rows.ensures.low row column inside within
          ∙ low_within width (odd_rows split row) (λ k. high_of height (column_of p k) row) two (λ k less. c.split_columns.ensures.high row k inside less) column within;
      hh = λ row column inside within. c.split_odd_rows.ensures.high row column inside within
          ∙ high_within width (odd_rows split row) (λ k. high_of height (column_of p k) row) (λ k less. c.split_columns.ensures.high row k inside less) column within;
    }
