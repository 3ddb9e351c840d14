use Rattle.std.proofs.Common.{◌≤◌, ◌^◌, ◌*◌, ◌+◌, ◌/◌, ap, ◌∙◌, arith}
use Rattle.std.proofs.Math.Pow.{pow_mono}
use Rattle.xs_planes.specs.Numbers.{column_in, lanes_of}
use Rattle.xs_planes.proofs.Gather.{lanes_within, sixteen_lanes}
use Rattle.xs_planes.proofs.read.gathered.Goals as goal

pub eight_planes-requires : goal.eight_planes-requires
eight_planes-requires c =
    let most : 2 ^ (4 * c.args.planes) ≤ 2 ^ 32 = pow_mono {i = 4 * c.args.planes} {j = 32} (omega (arith, c.if-planes-le8.true)) in
    omega (arith, most, c.requires.small)

pub eight_planes-requires-else-planes-le8 : goal.eight_planes-requires-else-planes-le8
eight_planes-requires-else-planes-le8 c =
    let most : 2 ^ (4 * c.args.planes) ≤ 2 ^ 60 = pow_mono {i = 4 * c.args.planes} {j = 60} (omega (arith, c.requires.few)) in
    omega (arith, most, c.requires.small)

pub returns-then-planes-le8 : goal.returns-then-planes-le8
returns-then-planes-le8 c = c.eight_planes.ensures.value ∙ lanes_within c.args.planes 8 c.args.number c.if-planes-le8.true c.requires.small

pub returns-else-planes-le8 : goal.returns-else-planes-le8
returns-else-planes-le8 c =
    ap (λ n. n * 256 + c.eight_planes-else-planes-le8-2.result) c.eight_planes-else-planes-le8.ensures.value
    ∙ ap (λ n. lanes_of (column_in 8 (c.args.number / 2 ^ 32)) * 256 + n) c.eight_planes-else-planes-le8-2.ensures.value
    ∙ sixteen_lanes c.args.number ∙ lanes_within c.args.planes 16 c.args.number (omega (arith, c.requires.few)) c.requires.small
