use Rattle.std.proofs.Common.{◌<◌, ◌≤◌, length, ap, ◌∙◌, arith}
use Rattle.xs_signal.specs.Lines.{entries_of}
use Rattle.xs_geometry.specs.SliceLines.{lines_at}
use Rattle.xs_precinct_write.specs.Outgoing.{Outgoing}
use Rattle.xs_precinct_write.proofs.Counting.{counted_first, counted_next, is_first, is_later}
use Rattle.xs_precinct_write.proofs.Sending.{length_cut}
use Rattle.xs_precinct_write.proofs.write.slice.count_line.Goals as goal

pub returns-then-number-first-clause-counted : goal.returns-then-number-first-clause-counted
returns-then-number-first-clause-counted c =
    let s = c.args.at.now in
    let are = c.requires.rows.1.lines in
    let high : (lines_at s.rows.now c.args.band).first < c.args.number = omega (arith, c.if-number-first.true, c.lines-first.ensures.first) in
    counted_next s.header.now s.rows.now s.candidate c.args.band c.args.number c.cut_of.result c.row.result.now c.row-then-number-first.result.now c.args.line.now c.count.new.self c.count_above.new.self
    c.count.ensures c.count_above.ensures c.cut_of.ensures.cut c.row.ensures c.row-then-number-first.ensures c.requires.room (is_later s.header.now c.requires.rows.0 s.rows.now c.args.band c.args.number are c.requires.there high)

pub returns-then-number-first-clause-alike : goal.returns-then-number-first-clause-alike
returns-then-number-first-clause-alike c = record {
  mode = ap (λ (x : Outgoing). x.mode) c.count_above.ensures ∙ ap (λ (x : Outgoing). x.mode) c.count.ensures;
  groups = ap (λ (x : Outgoing). length x.counts) c.count_above.ensures ∙ ap (λ (x : Outgoing). length x.counts) c.count.ensures ∙ length_cut (entries_of c.row.result.now) c.cut_of.result (length c.args.line.now.counts);
}

pub returns-else-number-first-clause-counted : goal.returns-else-number-first-clause-counted
returns-else-number-first-clause-counted c =
    let s = c.args.at.now in
    let are = c.requires.rows.1.lines in
    let low : c.args.number ≤ (lines_at s.rows.now c.args.band).first = omega (arith, c.if-number-first.false, c.lines-first.ensures.first) in
    counted_first s.header.now s.rows.now s.candidate c.args.band c.args.number c.cut_of.result c.row.result.now c.args.line.now c.count.new.self c.count.ensures c.cut_of.ensures.cut c.row.ensures c.requires.room
    (is_first s.header.now c.requires.rows.0 s.rows.now c.args.band c.args.number are c.requires.there low)

pub returns-else-number-first-clause-alike : goal.returns-else-number-first-clause-alike
returns-else-number-first-clause-alike c = record {
  mode = ap (λ (x : Outgoing). x.mode) c.count.ensures;
  groups = ap (λ (x : Outgoing). length x.counts) c.count.ensures ∙ length_cut (entries_of c.row.result.now) c.cut_of.result (length c.args.line.now.counts);
}
