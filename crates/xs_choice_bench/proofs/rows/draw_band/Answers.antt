use Rattle.std.proofs.Common.{sym, subst, arith}
use Rattle.xs_geometry.specs.SliceLines.{HasLine}
use Rattle.xs_signal.specs.Lines.{entries_of}
use Rattle.xs_rate.specs.Laws.{IsSmallRow}
use Rattle.xs_choice_bench.proofs.Smallness.{line_stays, row_more}
use Rattle.xs_choice_bench.proofs.rows.draw_band.Goals as goal

pub row-width-requires : goal.row-width-requires
row-width-requires c = c.lines.invariant.there c.lines.line (record { band_there = c.requires.band; from = omega (arith, c.lines.invariant.from, c.lines-first.ensures.first); line_there = omega (arith, c.lines-test.true, c.lines-first.ensures.end) })

pub put_row-requires-clause-there : goal.put_row-requires-clause-there
put_row-requires-clause-there c = c.lines.invariant.there c.lines.line (record { band_there = c.requires.band; from = omega (arith, c.lines.invariant.from, c.lines-first.ensures.first); line_there = omega (arith, c.lines-test.true, c.lines-first.ensures.end) })

pub lines-init : goal.lines-init
lines-init c = record { from = omega arith; small = c.requires.small; kept = λ h slice are. are; there = λ line has. has }

pub lines-preserved : goal.lines-preserved
lines-preserved c =
    let has : HasLine c.lines.rows c.args.band c.lines.line = c.lines.invariant.there c.lines.line (record { band_there = c.requires.band; from = omega (arith, c.lines.invariant.from, c.lines-first.ensures.first); line_there = omega (arith, c.lines-test.true, c.lines-first.ensures.end) }) in
    let own : IsSmallRow (entries_of c.as_slice.result.now) = subst (λ row. IsSmallRow (entries_of row)) (sym c.as_slice.ensures.value) c.in_ok-row.ensures.small in
    record {
      from = omega (arith, c.lines.invariant.from);
      small = row_more c.lines.rows c.put_row.new.self c.args.band c.lines.line c.as_slice.result.now has c.put_row.ensures.written own c.lines.invariant.small;
      kept = λ h slice are. c.put_row.ensures.lines h slice (c.lines.invariant.kept h slice are);
      there = λ line before. line_stays c.lines.rows c.put_row.new.self c.args.band c.lines.line line c.as_slice.result.now has c.put_row.ensures.written (c.lines.invariant.there line before);
    }
