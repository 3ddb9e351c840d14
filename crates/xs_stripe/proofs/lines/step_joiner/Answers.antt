use Rattle.std.proofs.Common.{◌≤◌, ◌*◌, sym, subst, arith}
use Rattle.xs_signal.specs.Stripe.{rows_each}
use Rattle.xs_joiner.specs.Chain.{AreThere}
use Rattle.xs_stripe.specs.Raised.{raised_rows}
use Rattle.xs_stripe.specs.Joined.{raised_bands}
use Rattle.xs_stripe.proofs.Fresh.{rows_there, bands_shown}
use Rattle.xs_stripe.proofs.lines.step_joiner.Goals as goal

pub step-requires-clause-rows : goal.step-requires-clause-rows
step-requires-clause-rows g c =
    let source = c.args.source.now in
    let h = source.header.now in
    let rows = g.S.CoefficientRows.rows source.rows.now in
    let joiner = c.args.joiner.now in
    let deep : h.nly ≤ h.nlx = omega (arith, c.requires.accepted.geometry.nly) in
    let from = subst (λ s. rows_each s 0 * joiner.first ≤ joiner.given) c.requires.split c.requires.chain.from in
    subst (λ s. AreThere s joiner.first joiner.given (raised_rows h source.component rows)) (sym c.requires.split) (rows_there h source.component joiner.first joiner.given rows deep c.requires.component c.requires.room from c.requires.near)

pub returns-clause-holds : goal.returns-clause-holds
returns-clause-holds g c coefficients held shown =
    let source = c.args.source.now in
    let h = source.header.now in
    c.step.ensures.holds (raised_bands h coefficients source.component) held (bands_shown h source.component coefficients (g.S.CoefficientRows.rows source.rows.now) c.requires.accepted.bits.1 shown)
