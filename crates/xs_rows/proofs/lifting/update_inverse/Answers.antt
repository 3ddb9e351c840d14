use Rattle.std.proofs.Common.{◌≡◌, pos, ◌+ℤ◌, arith, ap, ◌∙◌, w32, to_z, of_z}
use Rattle.std.proofs.lemmas.Int.{ints}
use Rattle.std.specs.Int.{int_shr}
use Rattle.xs_rows.proofs.lifting.update_inverse.Goals as goal

pub returns : goal.returns
returns c =
    let sum : to_z w32 (of_z w32 c.sum_and_two.result) ≡ c.args.left +ℤ c.args.right +ℤ pos 2 = omega (arith, ints, c.sum_and_two.ensures) in
    let part = c.quarter.ensures.value ∙ ap (λ z. int_shr z 2) sum in
    omega (arith, ints, part)
