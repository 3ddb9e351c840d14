use Rattle.std.proofs.Common.{◌+◌, ◌-◌, ◌*◌, ◌^◌, sym, ap, ◌∙◌, arith}
use Rattle.std.specs.Prelude.{nat_le, nat_lt, ◌&&◌}
use Rattle.xs_lists.specs.Bits.{bit_of}
use Rattle.xs_signal.specs.Quantiser.{quantised}
use Rattle.xs_rate.proofs.Digits.{digits-room}
use Rattle.xs_sizes.proofs.Ends.{dead_end, uniform_end, few_digits, small_word}
use Rattle.xs_sizes.proofs.signs.end_of.Goals as goal

pub digits-planes-requires : goal.digits-planes-requires
digits-planes-requires c = small_word c.args.magnitude c.args.count c.requires.small c.requires.count

pub returns-in-DeadZone : goal.returns-in-DeadZone
returns-in-DeadZone c t =
    ap (nat_lt t) c.digits-planes.ensures.digits ∙ dead_end c.args.magnitude c.args.count t c.requires.small c.requires.count
    ∙ ap (λ k. nat_lt t c.args.count && nat_lt 0 (quantised k c.args.count t c.args.magnitude)) (sym c.in-DeadZone.is)

pub is_upper-requires-clause-planes : goal.is_upper-requires-clause-planes
is_upper-requires-clause-planes c = omega (arith, c.digits-planes.ensures.digits, few_digits c.args.magnitude c.args.count c.requires.small c.requires.count)

pub is_upper-requires-clause-small : goal.is_upper-requires-clause-small
is_upper-requires-clause-small c = omega (arith, ap (λ k. 2 ^ k) c.digits-planes.ensures.digits, digits-room c.args.magnitude (small_word c.args.magnitude c.args.count c.requires.small c.requires.count))

pub returns-in-Uniform : goal.returns-in-Uniform
returns-in-Uniform c t =
    let m = c.args.magnitude in
    let count = c.args.count in
    uniform_end m count (c.digits-planes.result + c.bit.result) t c.requires.small c.requires.count
    (ap (λ b. c.digits-planes.result + b) (c.bit.ensures ∙ ap bit_of c.is_upper.ensures)
    ∙ ap (λ d. d + bit_of (nat_lt d count && nat_le (2 ^ count) (m * 2 ^ (count - d + 1) - m))) c.digits-planes.ensures.digits)
    ∙ ap (λ k. nat_lt t count && nat_lt 0 (quantised k count t m)) (sym c.in-Uniform.is)
