use Rattle.std.proofs.Common.{◌≡◌, ◌≤◌, ◌*◌, ◌-◌, ◌^◌, true, Bor, Vec, Global, ap, sym, subst, ◌∙◌, arith}
use Rattle.xs_params.specs.declared.header.Header.{Header}
use Rattle.xs_joiner.specs.declared.joiner.Joiner.{Joiner}
use Rattle.xs_stripe.specs.Joined.{HoldJoiners}
use Rattle.xs_stripe.specs.Lines.{HoldColours}
use Rattle.xs_stripe.proofs.lines.Lines.step.Goals as goal

pub turn_back-requires-clause-line : goal.turn_back-requires-clause-line
turn_back-requires-clause-line g c =
    let old = c.args.self.now in
    let new = c.step_joiners.new.self in
    let e = c.step_joiners.ensures in
    let same : new.header.now ≡ old.header.now = ap (λ (b : Bor Header). b.now) e.header in
    let from = subst (λ h. 2 ^ h.nly * new.first ≤ old.given) (sym same) (subst (λ n. 2 ^ old.header.now.nly * n ≤ old.given) (sym e.first) c.requires.state.from) in
    omega (arith, from, c.line_after-self.ensures, e.given)

pub returns-clause-holds : goal.returns-clause-holds
returns-clause-holds g c coefficients holds shown =
    let old = c.args.self.now in
    let mid = c.step_joiners.new.self in
    let new = c.turn_back.new.self in
    let e = c.turn_back.ensures in
    let same_mid : mid.header.now ≡ old.header.now = ap (λ (b : Bor Header). b.now) c.step_joiners.ensures.header in
    let same_new : new.header.now ≡ mid.header.now = ap (λ (b : Bor Header). b.now) e.header in
    let held = subst (λ h. HoldJoiners h coefficients mid.joiners.items) (sym same_mid) (c.step_joiners.ensures.holds coefficients holds.joiners shown) in
    let items : new.joiners.items ≡ mid.joiners.items = ap (λ (v : Vec Joiner Global). v.items) e.joiners in
    record {
      joiners = subst (λ h. HoldJoiners h coefficients new.joiners.items) (sym same_new) (subst (HoldJoiners mid.header.now coefficients) (sym items) held);
      colours = λ coloured begun.
          let is : mid.header.now.colour ≡ true = ap (λ (h : Header). h.colour) (sym same_new) ∙ coloured in
          subst (λ h. HoldColours h coefficients (new.given - 1) new.colours) (sym same_new) (subst (λ n. HoldColours mid.header.now coefficients (n - 1) new.colours) (sym e.given) (e.colours coefficients is held));
    }
