use Rattle.std.proofs.Common.{◌≡◌, ◌+ℤ◌, arith, ap, ◌∙◌, w32, to_z, of_z}
use Rattle.std.proofs.lemmas.Int.{ints}
use Rattle.std.specs.Int.{int_shr}
use Rattle.xs_colour.proofs.rows.green.Goals as goal

pub returns-clause-value : goal.returns-clause-value
returns-clause-value c =
    let sum : to_z w32 (of_z w32 c.sum.result) ≡ c.args.u +ℤ c.args.v = omega (arith, ints, c.sum.ensures) in
    let part = c.quarter.ensures.value ∙ ap (λ z. int_shr z 2) sum in
    omega (arith, ints, part)
