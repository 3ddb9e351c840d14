use Rattle.std.proofs.Common.{arith, ◌∙◌}
use Rattle.xs_wave.proofs.Fronts.{front_low, front_high}
use Rattle.xs_wave.proofs.across.split_front.Goals as goal

pub returns-clause-low : goal.returns-clause-low
returns-clause-low c k inside = c.analyse_line.ensures.low k inside ∙ front_low c.args.width c.args.row.now c.requires.two c.requires.wide k (omega (arith, inside, c.analyse_line.auto.low, c.requires.lows))

pub returns-clause-high : goal.returns-clause-high
returns-clause-high c k inside = c.analyse_line.ensures.high k inside ∙ front_high c.args.width c.args.row.now c.requires.wide k (omega (arith, inside, c.analyse_line.auto.high, c.requires.highs))
