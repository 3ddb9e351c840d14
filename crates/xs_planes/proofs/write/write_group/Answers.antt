use Rattle.std.proofs.Common.{◌<◌, ◌+◌, ◌*◌, ◌^◌, ◌++◌, sym, ap, subst, ◌∙◌}
use Rattle.xs_lists.specs.Bits.{bits_of}
use Rattle.xs_planes.specs.Numbers.{bit_planes_of, signs_with}
use Rattle.xs_planes.proofs.Spread.{parts_joined}
use Rattle.xs_planes.proofs.write.write_group.Goals as goal

pub put_wide-requires-else-signs_apart-clause-fits : goal.put_wide-requires-else-signs_apart-clause-fits
put_wide-requires-else-signs_apart-clause-fits c =
    let joined = parts_joined c.args.numbers c.args.planes _ _ c.joined.result c.parts-signs.ensures (c.joined.ensures ∙ ap (λ n. c.parts-signs.result.0 * 2 ^ (4 * n) + c.parts-signs.result.1) c.from-width.ensures) in
    subst (λ n. c.joined.result < 2 ^ (4 * n + 4)) (sym c.from-width.ensures) joined.0

pub returns-else-signs_apart-clause-bits : goal.returns-else-signs_apart-clause-bits
returns-else-signs_apart-clause-bits c =
    let joined = parts_joined c.args.numbers c.args.planes _ _ c.joined.result c.parts-signs.ensures (c.joined.ensures ∙ ap (λ n. c.parts-signs.result.0 * 2 ^ (4 * n) + c.parts-signs.result.1) c.from-width.ensures) in
    c.put_wide-else-signs_apart.ensures.bits ∙ ap (λ n. c.args.out.now.bits ++ bits_of (4 * n + 4) c.joined.result) c.from-width.ensures
    ∙ ap (λ l. c.args.out.now.bits ++ l) (joined.1 ∙ ap (λ b. signs_with b c.args.numbers ++ bit_planes_of c.args.numbers c.args.planes) (sym c.if-signs_apart.false))
