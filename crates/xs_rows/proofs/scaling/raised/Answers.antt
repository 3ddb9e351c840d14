use Rattle.std.proofs.Common.{◌≤◌, ◌<◌, ◌+◌, ◌*◌, ◌≡◌, ◌^◌, ap, arith}
use Rattle.std.proofs.Math.Nat.{pow-le-pow_right}
use Rattle.std.proofs.lemmas.Int.{ints}
use Rattle.std.proofs.lemmas.Nat.{shl_whole, shl_below}
use Rattle.xs_rows.proofs.scaling.raised.Goals as goal

pub returns-clause-small : goal.returns-clause-small
returns-clause-small c =
    let few : c.args.depth + c.args.step ≤ 24 = omega (arith, c.requires.depth, c.requires.step) in
    let most : 2 ^ (c.args.depth + c.args.step) ≤ 2 ^ 24 = pow-le-pow_right (omega arith) few in
    let sample : c.from.result < 2 ^ c.args.depth = omega (arith, c.from.ensures, c.requires.sample) in
    let whole = shl_whole c.from.result c.args.depth c.args.step 32 sample (omega (arith, few)) in
    let below = shl_below c.from.result c.args.depth c.args.step sample in
    record { least = omega (arith, ints, most, whole, below); most = omega (arith, ints, most, whole, below) }

pub returns-clause-value : goal.returns-clause-value
returns-clause-value c =
    let few : c.args.depth + c.args.step ≤ 24 = omega (arith, c.requires.depth, c.requires.step) in
    let most : 2 ^ (c.args.depth + c.args.step) ≤ 2 ^ 24 = pow-le-pow_right (omega arith) few in
    let sample : c.from.result < 2 ^ c.args.depth = omega (arith, c.from.ensures, c.requires.sample) in
    let whole = shl_whole c.from.result c.args.depth c.args.step 32 sample (omega (arith, few)) in
    let below = shl_below c.from.result c.args.depth c.args.step sample in
    let same : c.from.result * 2 ^ c.args.step ≡ c.args.sample * 2 ^ c.args.step = ap (λ n. n * 2 ^ c.args.step) c.from.ensures in
    omega (arith, ints, most, whole, below, same)
