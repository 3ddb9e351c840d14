use Rattle.std.proofs.Common.{◌≡◌, length, arith}
use Rattle.xs_planes.proofs.Spread.{parts_within}
use Rattle.xs_planes.proofs.write.long_parts.Goals as goal

pub returns : goal.returns
returns c = λ planes less small.
    let size : length c.args.numbers.now ≡ 4 = omega (arith, c.told-numbers) in
    parts_within c.args.numbers.now planes 15 c.laid-word.result size less small
    (omega (arith, c.laid-word.ensures, c.long_code.ensures.code, c.long_code-2.ensures.code, c.long_code-3.ensures.code, c.long_code-4.ensures.code))
