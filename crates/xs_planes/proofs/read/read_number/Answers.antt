use Rattle.std.proofs.Common.{◌≡◌, ◌+◌, ◌-◌, ◌*◌, ◌^◌, ◌<◌, ◌++◌, sym, ap, subst, ◌∙◌, arith, append_assoc}
use Rattle.xs_bits.specs.Reading.{left}
use Rattle.xs_bits.proofs.Laws.{join_below}
use Rattle.xs_lists.specs.Bits.{bits_of}
use Rattle.xs_lists.proofs.Bits.{bits_cat}
use Rattle.xs_planes.proofs.read.read_number.Goals as goal

pub returns-clause-value : goal.returns-clause-value
returns-clause-value c =
    let width = c.args.width in
    let high = c.in_ok-high.high in
    let low = c.in_ok-low.low in
    let rest = left c.get_wide-3.new.self in
    let back : width - 32 + 32 ≡ width = omega (arith, c.if-width-le57.false) in
    c.in_ok-high.ensures.value ∙ ap (λ l. bits_of (width - 32) high ++ l) c.in_ok-low.ensures.value ∙ sym (append_assoc (bits_of (width - 32) high) (bits_of 32 low) rest)
    ∙ ap (λ l. l ++ rest) (sym (bits_cat (width - 32) 32 high low c.in_ok-low.ensures.fits) ∙ ap (λ k. bits_of k (high * 2 ^ 32 + low)) back)

pub returns-clause-fits : goal.returns-clause-fits
returns-clause-fits c =
    let back : c.args.width - 32 + 32 ≡ c.args.width = omega (arith, c.if-width-le57.false) in
    subst (λ k. c.in_ok-high.high * 2 ^ 32 + c.in_ok-low.low < 2 ^ k) back (join_below c.in_ok-high.high c.in_ok-low.low (c.args.width - 32) 32 c.in_ok-high.ensures.fits c.in_ok-low.ensures.fits)
