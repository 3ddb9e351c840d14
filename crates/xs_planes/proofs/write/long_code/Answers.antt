use Rattle.std.proofs.Common.{◌+◌, ◌*◌, ◌/◌, ◌^◌, ap, ◌∙◌, arith}
use Rattle.std.specs.Prelude.{slice_index_or, pos}
use Rattle.xs_planes.specs.Numbers.{spread_to}
use Rattle.xs_planes.proofs.Spread.{code_by_bytes, code_long}
use Rattle.xs_planes.proofs.write.long_code.Goals as goal

pub returns-clause-code : goal.returns-clause-code
returns-clause-code c =
    let v = c.magnitude_and_sign-signed.result in
    let z = slice_index_or c.args.numbers.now c.args.column (pos 0) in
    ap (λ n. n * 2 ^ 32 + c.spread_byte-2.result) c.spread_byte.ensures.value ∙ ap (λ n. spread_to 8 (v / 256) * 2 ^ 32 + n) c.spread_byte-2.ensures.value
    ∙ code_by_bytes z v c.requires.small c.magnitude_and_sign-signed.ensures.value

pub returns-clause-few : goal.returns-clause-few
returns-clause-few c =
    omega (arith, returns-clause-code c, code_long (slice_index_or c.args.numbers.now c.args.column (pos 0)))
