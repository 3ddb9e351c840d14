use Rattle.std.proofs.Common.{◌≡◌, ◌+ℤ◌, ◌-ℤ◌, arith, ap, ◌∙◌, w32, to_z, of_z}
use Rattle.std.proofs.lemmas.Int.{ints, to_z-of_z}
use Rattle.std.specs.Int.{int_shr}
use Rattle.xs_signal.proofs.Laws.{triple}
use Rattle.xs_colour.proofs.rows.unrct_entry.Goals as goal

pub returns : goal.returns
returns c =
    let g = c.green-g.result in
    let here : to_z w32 (of_z w32 g) ≡ g = omega (arith, ints) in
    let red : to_z w32 (of_z w32 (to_z w32 (of_z w32 c.args.v) +ℤ to_z w32 (of_z w32 g))) ≡ c.args.v +ℤ g = omega (arith, ints) in
    let blue : to_z w32 (of_z w32 (to_z w32 (of_z w32 c.args.u) +ℤ to_z w32 (of_z w32 g))) ≡ c.args.u +ℤ g = omega (arith, ints) in
    let y = to_z-of_z w32 c.args.y c.ranges.y in
    let u = to_z-of_z w32 c.args.u c.ranges.u in
    let v = to_z-of_z w32 c.args.v c.ranges.v in
    let value = c.green-g.ensures.value in
    let green : g ≡ c.args.y -ℤ int_shr (c.args.u +ℤ c.args.v) 2 = cc in
    triple _ _ _ _ _ _ (red ∙ ap (λ z. c.args.v +ℤ z) green) (here ∙ green) (blue ∙ ap (λ z. c.args.u +ℤ z) green)
