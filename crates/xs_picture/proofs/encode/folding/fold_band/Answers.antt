use Rattle.std.proofs.Common.{◌≡◌, [], length, get_or, sym, ap, ◌∙◌, arith}
use Rattle.xs_geometry.specs.SliceLines.{HasLine, row_at}
use Rattle.xs_geometry.specs.Written.{with_row}
use Rattle.xs_picture.specs.Analysed.{folded_row, rows_of_kind}
use Rattle.xs_picture.proofs.Folded.{folded_more}
use Rattle.xs_picture.proofs.encode.folding.fold_band.Goals as goal

pub fold_line-requires-clause-there : goal.fold_line-requires-clause-there
fold_line-requires-clause-there c =
    (c.loop-line.invariant.same c.args.band.number c.loop-line.line).1 (record {
      band_there = c.requires.band;
      from = omega (arith, c.loop-line.auto.line, c.lines-first.ensures.first);
      line_there = omega (arith, c.loop-line-test.true, c.loop-line.auto.line-end, c.lines-first.ensures.end);
    })

pub loop-line-preserved : goal.loop-line-preserved
loop-line-preserved c =
    let band = c.args.band.number in
    let line = c.loop-line.line in
    let rows = c.loop-line.rows in
    let plane = rows_of_kind c.args.bands.now c.args.band.kind in
    let there : HasLine c.args.rows.now band line = record {
      band_there = c.requires.band;
      from = omega (arith, c.loop-line.auto.line, c.lines-first.ensures.first);
      line_there = omega (arith, c.loop-line-test.true, c.loop-line.auto.line-end, c.lines-first.ensures.end);
    } in
    let wide : length (get_or plane line []) ≡ length (row_at rows band line) = c.requires.wide line there ∙ sym (ap length (c.loop-line.invariant.later line (omega arith) there)) in
    folded_more c.args.band.fraction plane band c.args.rows.now line rows c.fold_line.new.rows there wide
    (c.fold_line.ensures ∙ ap (λ r. with_row rows band line (folded_row c.args.band.fraction r)) c.row-numbers.ensures) c.loop-line.invariant

pub row-numbers-requires-clause-line : goal.row-numbers-requires-clause-line
row-numbers-requires-clause-line c = c.requires.there c.loop-line.line (record {
  band_there = c.requires.band;
  from = omega (arith, c.loop-line.auto.line, c.lines-first.ensures.first);
  line_there = omega (arith, c.loop-line-test.true, c.loop-line.auto.line-end, c.lines-first.ensures.end);
})
