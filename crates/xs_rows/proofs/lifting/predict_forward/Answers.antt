use Rattle.std.proofs.Common.{◌≡◌, ◌+ℤ◌, arith, ap, ◌∙◌, w32, to_z, of_z}
use Rattle.std.proofs.lemmas.Int.{ints}
use Rattle.std.specs.Int.{int_shr}
use Rattle.xs_rows.proofs.lifting.predict_forward.Goals as goal

pub returns : goal.returns
returns c =
    let sum : to_z w32 (of_z w32 c.sum.result) ≡ c.args.left +ℤ c.args.right = omega (arith, ints, c.sum.ensures) in
    let part = c.half.ensures.value ∙ ap (λ z. int_shr z 1) sum in
    omega (arith, ints, part)
