use Rattle.std.proofs.Common.{◌≡◌, ◌+◌, ◌-◌, ◌*◌, ◌/◌, ◌%◌, ◌<◌, sym, ◌∙◌, arith}
use Rattle.xs_geometry.proofs.Types.{wide_type, deep_type}
use Rattle.xs_geometry.proofs.kinds.kind_of.Goals as goal

pub returns-then-number-wide-clause-band_type : goal.returns-then-number-wide-clause-band_type
returns-then-number-wide-clause-band_type c =
    sym (wide_type c.args.nlx c.args.nly c.args.number (omega (arith, c.if-number-eq0.false)) (omega (arith, c.if-number-wide.true)))

pub returns-else-number-wide-clause-band_type : goal.returns-else-number-wide-clause-band_type
returns-else-number-wide-clause-band_type c =
    let deep = c.args.number - (c.args.nlx - c.args.nly) - 1 in
    let here : c.args.number ≡ c.args.nlx - c.args.nly + 1 + (3 * (deep / 3) + deep % 3) = omega (arith, c.if-number-wide.false) in
    let less : deep / 3 < c.args.nly = omega (arith, c.requires.there, c.requires.deep, c.if-number-wide.false) in
    let side : deep % 3 < 3 = omega arith in
    c.deep_kind.ensures.band_type ∙ sym (deep_type c.args.nlx c.args.nly c.args.number (deep / 3) (deep % 3) here less side)
