use Rattle.std.proofs.Common.{◌≤◌, ◌^◌, arith}
use Rattle.std.proofs.Math.Pow.{pow_mono}
use Rattle.std.proofs.Math.Nat.{mul-le-mul_left}
use Rattle.std.proofs.lemmas.Nat.{shl_whole}
use Rattle.xs_sizes.proofs.signs.scaled.Goals as goal

pub returns-clause-value : goal.returns-clause-value
returns-clause-value c = shl_whole c.args.x c.args.planes c.args.k 32 c.requires.small (omega (arith, c.requires.few))

pub returns-clause-least : goal.returns-clause-least
returns-clause-least c =
    let x = c.args.x in
    let whole = shl_whole x c.args.planes c.args.k 32 c.requires.small (omega (arith, c.requires.few)) in
    let one : 2 ^ 0 ≤ 2 ^ c.args.k = pow_mono {i = 0} {j = c.args.k} (omega arith) in
    omega (arith, whole, mul-le-mul_left x one)
