use Rattle.std.proofs.Common.{ℕ, ap, arith}
use Rattle.xs_sizes.proofs.Moded.{precinct_inside}
use Rattle.xs_sizes.proofs.precincts.lines_in.Goals as goal

pub returns-clause-from : goal.returns-clause-from
returns-clause-from c =
    let lines = c.requires.lines in
    let inside = precinct_inside c.args.counting.now.geometry.now lines.0 c.args.counting.now.rows.now c.args.at.0 c.args.at.1 lines.1 lines.2 c.requires.band in
    omega (arith, c.requires.counted.first, inside.from, ap (λ (p : ℕ × ℕ). p.0) c.lines.ensures)

pub returns-clause-there : goal.returns-clause-there
returns-clause-there c =
    let lines = c.requires.lines in
    let inside = precinct_inside c.args.counting.now.geometry.now lines.0 c.args.counting.now.rows.now c.args.at.0 c.args.at.1 lines.1 lines.2 c.requires.band in
    omega (arith, c.requires.counted.first, c.requires.counted.lines.count, inside.to, ap (λ (p : ℕ × ℕ). p.1) c.lines.ensures)
