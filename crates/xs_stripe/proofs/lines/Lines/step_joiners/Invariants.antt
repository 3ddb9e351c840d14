use Rattle.std.proofs.Common.{◌≡◌, ◌+◌}
use Rattle.xs_joiner.specs.Chain.{HoldsBands}
use Rattle.xs_stripe.specs.Source.{ShowRowsOf}
use Rattle.xs_stripe.specs.Joined.{raised_bands}
use Rattle.xs_stripe.proofs.Steps.{AreMoved}
use Rattle.xs_stripe.proofs.lines.Lines.step_joiners.Given as goal

abbrev pub invariant-components : goal.invariant-components
invariant-components g l = record {
  header : l.self.header ≡ l.fn.self.header;
  first : l.self.first ≡ l.fn.self.first;
  given : l.self.given ≡ l.fn.self.given;
  colours : l.self.colours ≡ l.fn.self.colours;
  moved : AreMoved l.fn.self.header.now l.fn.self.first (l.fn.self.given + 1) l.component (λ coefficients c j. HoldsBands (raised_bands l.fn.self.header.now coefficients c) j × ShowRowsOf coefficients (g.S.CoefficientRows.rows l.rows)) l.fn.self.joiners.items l.self.joiners.items;
}
