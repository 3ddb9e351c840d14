use Rattle.std.proofs.Common.{◌-◌, if◌then◌else◌, ap, sym, subst, ◌∙◌}
use Rattle.xs_signal.specs.Picture.{uncoloured}
use Rattle.xs_joiner.specs.Chain.{HoldsBands}
use Rattle.xs_stripe.specs.Joined.{IsComponentJoiner, joined_planes, raised_bands}
use Rattle.xs_stripe.proofs.Turned.{line_is}
use Rattle.xs_stripe.proofs.lines.Lines.numbers.Goals as goal

pub returns-else-self-clause-shows : goal.returns-else-self-clause-shows
returns-else-self-clause-shows c coefficients holds k inside =
    let s = c.args.self.now in
    let h = s.header.now in
    let component = c.args.component in
    let joiner = c.index.result.now in
    let state = subst (IsComponentJoiner h component s.first s.given) (sym c.index.ensures) (c.requires.state.joiners.each component joiner c.requires.component) in
    let held = subst (HoldsBands (raised_bands h coefficients component)) (sym c.index.ensures) (holds.joiners component joiner c.requires.component) in
    line_is h coefficients component s.first s.given joiner c.line.result.now state (c.line.ensures.shows (raised_bands h coefficients component) held) k inside
    ∙ sym (ap (λ t. (if t then uncoloured (joined_planes h coefficients) else joined_planes h coefficients) component (s.given - 1) k) c.if-self.false)
