use Rattle.std.proofs.Common.{◌≡◌, Bor, ap, sym, subst, arith}
use Rattle.xs_params.specs.declared.header.Header.{Header}
use Rattle.xs_stripe.specs.Joined.{HoldJoiners}
use Rattle.xs_stripe.proofs.lines.Lines.begin.Goals as goal

pub returns-clause-holds : goal.returns-clause-holds
returns-clause-holds g c coefficients shown =
    let same : c.begin_joiners.new.self.header.now ≡ c.args.self.now.header.now = ap (λ (b : Bor Header). b.now) c.begin_joiners.ensures.header in
    record {
      joiners = subst (λ h. HoldJoiners h coefficients c.begin_joiners.new.self.joiners.items) (sym same) (c.begin_joiners.ensures.holds coefficients shown);
      colours = λ coloured begun. absurd (omega (arith, begun, c.first_line-self.ensures));
    }
