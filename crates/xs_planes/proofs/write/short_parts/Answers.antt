use Rattle.std.proofs.Common.{◌≡◌, length, arith}
use Rattle.xs_planes.proofs.Spread.{parts_within}
use Rattle.xs_planes.proofs.write.short_parts.Goals as goal

pub returns : goal.returns
returns c = λ planes less small.
    let size : length c.args.numbers.now ≡ 4 = omega (arith, c.told-numbers) in
    parts_within c.args.numbers.now planes 7 c.laid-word.result size less small
    (omega (arith, c.laid-word.ensures, c.short_code.ensures.code, c.short_code-2.ensures.code, c.short_code-3.ensures.code, c.short_code-4.ensures.code))
