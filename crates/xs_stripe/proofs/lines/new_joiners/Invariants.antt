use Rattle.xs_stripe.proofs.Steps.{AreMade}
use Rattle.xs_stripe.proofs.lines.new_joiners.Given as goal

abbrev pub invariant-components : goal.invariant-components
invariant-components l = AreMade l.header l.component l.joiners.items
