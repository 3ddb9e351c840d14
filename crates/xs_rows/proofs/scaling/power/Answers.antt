use Rattle.std.proofs.Common.{◌≤◌, ◌^◌, arith}
use Rattle.std.proofs.Math.Nat.{pow-le-pow_right}
use Rattle.std.proofs.lemmas.Int.{ints}
use Rattle.std.proofs.lemmas.Nat.{shl_whole}
use Rattle.xs_rows.proofs.scaling.power.Goals as goal

pub returns-clause-small : goal.returns-clause-small
returns-clause-small c =
    let most : 2 ^ c.args.k ≤ 2 ^ 19 = pow-le-pow_right (omega arith) c.requires in
    let whole = shl_whole 1 1 c.args.k 32 (omega arith) (omega (arith, c.requires)) in
    record { least = omega (arith, ints, most, whole); most = omega (arith, ints, most, whole) }

pub returns-clause-value : goal.returns-clause-value
returns-clause-value c =
    let most : 2 ^ c.args.k ≤ 2 ^ 19 = pow-le-pow_right (omega arith) c.requires in
    let whole = shl_whole 1 1 c.args.k 32 (omega arith) (omega (arith, c.requires)) in
    omega (arith, ints, most, whole)
