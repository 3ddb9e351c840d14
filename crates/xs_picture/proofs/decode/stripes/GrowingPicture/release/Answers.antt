use Rattle.std.proofs.Common.{◌≡◌, ◌-◌, sym, subst, arith}
use Rattle.xs_layout.specs.declared.Shape.{Shape}
use Rattle.xs_stripe.specs.Edges.{IsDownEdge}
use Rattle.xs_stripe.specs.Written.{IsStripeFor}
use Rattle.xs_stripe.proofs.Written.{fits_picture}
use Rattle.xs_picture.specs.Growing.{next_slice}
use Rattle.xs_picture.proofs.Grown.{holds_last, lines_made, next_of, up_of, waits}
use Rattle.xs_picture.proofs.decode.stripes.GrowingPicture.release.Goals as goal

pub write_to-requires : goal.write_to-requires
write_to-requires c =
    let growing = c.args.self.now in
    let last = c.in-Some.last in
    let held = c.requires.held in
    let is = c.in_ok-stripe.ensures held.0 (holds_last growing last c.in-Some.ensures.value held.0 held.1).shown (up_of growing last c.in-Some.ensures.value held.0 c.args.below held.2) in
    subst (λ (s : Shape). IsStripeFor s c.in_ok-stripe.stripe) (sym c.requires.state.shape) (fits_picture growing.header last.slice c.in_ok-stripe.stripe held.0 is)

pub returns-clause-above : goal.returns-clause-above
returns-clause-above c =
    let growing = c.args.self.now in
    let last = c.in-Some.last in
    let next = next_of growing last c.in-Some.ensures.value in
    let same : last.slice ≡ next_slice growing.waiting - 1 = omega (arith, next) in
    (omega (arith, next), subst (λ n. IsDownEdge growing.header n last.down) same (waits growing last c.in-Some.ensures.value c.requires.state).down)

pub returns-clause-lines : goal.returns-clause-lines
returns-clause-lines c coefficients holds up =
    let growing = c.args.self.now in
    let last = c.in-Some.last in
    let is = c.in_ok-stripe.ensures coefficients (holds_last growing last c.in-Some.ensures.value coefficients holds).shown (up_of growing last c.in-Some.ensures.value coefficients c.args.below up) in
    lines_made growing last c.in-Some.ensures.value coefficients c.in_ok-stripe.stripe c.write_to.new.picture c.requires.state holds is c.write_to.ensures.shape c.write_to.ensures.lines c.write_to.ensures.others
