use Rattle.std.proofs.Common.{◌≤◌, ◌*◌, ◌^◌, sym, subst, arith}
use Rattle.xs_stripe.proofs.Steps.{slice_inside}
use Rattle.xs_stripe.proofs.lines.first_precinct.Goals as goal

pub returns-clause-inside : goal.returns-clause-inside
returns-clause-inside c =
    let h = c.args.header.now in
    let less = slice_inside h c.args.slice c.requires.accepted c.requires.slice in
    subst (λ n. 2 ^ h.nly * (c.args.slice * n) ≤ h.shape.height) (sym c.from.ensures) (omega (arith, less))
