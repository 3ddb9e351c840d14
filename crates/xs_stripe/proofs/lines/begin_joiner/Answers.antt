use Rattle.std.proofs.Common.{◌≤◌, sym, subst, arith}
use Rattle.xs_joiner.specs.Chain.{AreAbove}
use Rattle.xs_stripe.specs.Raised.{raised_rows}
use Rattle.xs_stripe.specs.Joined.{raised_bands}
use Rattle.xs_stripe.proofs.Fresh.{rows_above, bands_shown}
use Rattle.xs_stripe.proofs.lines.begin_joiner.Goals as goal

pub begin-requires-clause-rows : goal.begin-requires-clause-rows
begin-requires-clause-rows g c =
    let source = c.args.source.now in
    let h = source.header.now in
    let rows = g.S.CoefficientRows.rows source.rows.now in
    let deep : h.nly ≤ h.nlx = omega (arith, c.requires.accepted.geometry.nly) in
    subst (λ s. AreAbove s c.args.first (raised_rows h source.component rows)) (sym c.requires.split) (rows_above h source.component c.args.first rows deep c.requires.component c.requires.above)

pub returns-clause-holds : goal.returns-clause-holds
returns-clause-holds g c coefficients shown =
    let source = c.args.source.now in
    let h = source.header.now in
    c.begin.ensures.holds (raised_bands h coefficients source.component) (bands_shown h source.component coefficients (g.S.CoefficientRows.rows source.rows.now) c.requires.accepted.bits.1 shown)
