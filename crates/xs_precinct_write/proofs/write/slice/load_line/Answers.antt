use Rattle.xs_precinct_write.proofs.Counting.{counted_row, sent_from}
use Rattle.xs_precinct_write.proofs.write.slice.load_line.Goals as goal

pub quantise-requires-clause-counts : goal.quantise-requires-clause-counts
quantise-requires-clause-counts c =
    let s = c.args.at.now in
    counted_row s.header.now s.rows.now s.candidate c.args.band c.args.number c.count_line.new.line c.row.result.now c.count_line.ensures.counted c.row.ensures

pub returns-clause-sent : goal.returns-clause-sent
returns-clause-sent c =
    let s = c.args.at.now in
    sent_from s.header.now s.rows.now s.candidate c.args.band c.args.number c.args.line.now.mode c.count_line.new.line c.quantise.new.self c.row.result.now c.count_line.ensures.counted c.count_line.ensures.alike.mode c.row.ensures
    c.quantise.ensures.values c.quantise.ensures.numbers
