use Rattle.std.proofs.Common.{arith}
use Rattle.xs_stripe.proofs.lines.Lines.new.Goals as goal

pub returns-clause-holds : goal.returns-clause-holds
returns-clause-holds c rows = record { joiners = c.in_ok-joiners.ensures.holds rows; colours = λ coloured begun. absurd (omega (arith, begun)) }
