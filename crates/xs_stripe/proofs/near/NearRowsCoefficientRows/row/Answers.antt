use Rattle.std.proofs.Common.{◌<◌, ◌≤◌, ◌+◌, length, ◌∙◌, arith}
use Rattle.xs_geometry.specs.SliceLines.{lines_at}
use Rattle.xs_stripe.proofs.Beside.{known_band, known_above, known_body, known_below}
use Rattle.xs_stripe.proofs.near.NearRowsCoefficientRows.row.Goals as goal

pub lines-first-requires : goal.lines-first-requires
lines-first-requires c = known_band c.args.self.now.above c.args.self.now.body.now c.args.self.now.below c.args.band c.args.line c.requires.known

pub row-requires : goal.row-requires
row-requires c =
    let s = c.args.self.now in
    record {
      band_there = known_band s.above s.body.now s.below c.args.band c.args.line c.requires.known;
      from = omega (arith, c.if-line-first.false, c.lines-first.ensures.first);
      line_there = omega (arith, c.if-line-end.true, c.lines-first.ensures.end);
    }

pub returns-then-line-first : goal.returns-then-line-first
returns-then-line-first c =
    let s = c.args.self.now in
    let less : c.args.line < (lines_at s.body.now c.args.band).first = omega (arith, c.if-line-first.true, c.lines-first.ensures.first) in
    c.edge_row.ensures ∙ known_above s.above s.body.now s.below c.args.band c.args.line c.requires.known less

pub returns-then-line-end : goal.returns-then-line-end
returns-then-line-end c =
    let s = c.args.self.now in
    let from : (lines_at s.body.now c.args.band).first ≤ c.args.line = omega (arith, c.if-line-first.false, c.lines-first.ensures.first) in
    let to : c.args.line < (lines_at s.body.now c.args.band).first + length (lines_at s.body.now c.args.band).rows = omega (arith, c.if-line-end.true, c.lines-first.ensures.end) in
    c.row.ensures ∙ known_body s.above s.body.now s.below c.args.band c.args.line c.requires.known from to

pub returns-else-line-end : goal.returns-else-line-end
returns-else-line-end c =
    let s = c.args.self.now in
    let past : (lines_at s.body.now c.args.band).first + length (lines_at s.body.now c.args.band).rows ≤ c.args.line = omega (arith, c.if-line-end.false, c.lines-first.ensures.end) in
    c.edge_row-else-line-end.ensures ∙ known_below s.above s.body.now s.below c.args.band c.args.line c.requires.known past
