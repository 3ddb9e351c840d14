use Rattle.std.proofs.Common.{◌≡◌, pos, ◌+ℤ◌, ◌*ℤ◌, arith, ap, ◌∙◌, w32, to_z, of_z}
use Rattle.std.proofs.lemmas.Int.{ints}
use Rattle.std.specs.Int.{int_shr}
use Rattle.xs_signal.proofs.Laws.{triple}
use Rattle.xs_colour.proofs.rows.rct_entry.Goals as goal

pub returns : goal.returns
returns c =
    let sum : to_z w32 (of_z w32 c.weighted.result) ≡ c.args.r +ℤ pos 2 *ℤ c.args.g +ℤ c.args.b = omega (arith, ints, c.weighted.ensures) in
    let part = c.quarter.ensures.value ∙ ap (λ z. int_shr z 2) sum in
    triple _ _ _ _ _ _ (omega (arith, ints, part)) (omega (arith, ints)) (omega (arith, ints))
