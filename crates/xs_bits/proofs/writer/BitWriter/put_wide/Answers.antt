use Rattle.std.proofs.Common.{min, ap, subst, ◌∙◌, ◌++◌, ◌+◌, ◌-◌, ◌*◌, ◌^◌, ◌<◌, ◌≤◌, ◌≡◌, vec_len, vec_capacity, arith}
use Rattle.std.proofs.Math.Pow.{pow_mono}
use Rattle.std.proofs.lemmas.Nat.{shl_below, shr_below}
use Rattle.xs_lists.specs.Bits.{bits_of}
use Rattle.xs_bits.specs.Written.{Written}
use Rattle.xs_bits.proofs.Laws.{join_below, put_bits, word_moves}
use Rattle.xs_bits.proofs.writer.BitWriter.put_wide.Goals as goal

pub join-self-inside-requires-clause-high : goal.join-self-inside-requires-clause-high
join-self-inside-requires-clause-high c =
    let most : 2 ^ (c.self.inside.count + c.args.width) ≤ 2 ^ 64 = pow_mono {i = c.self.inside.count + c.args.width} {j = 64} (omega (arith, c.if-count-lt-WORD.true)) in
    omega (arith, most, shl_below c.self.inside.partial c.self.inside.count c.args.width c.self.invariant.1)

pub invariant_of-self : goal.invariant_of-self
invariant_of-self c =
    let number : c.join-self-inside.result < 2 ^ (c.self.inside.count + c.args.width) = rw c.join-self-inside.ensures (join_below _ _ _ _ c.self.invariant.1 c.requires.fits) in
    let spare : min (8 * vec_capacity c.self.inside.bytes) (2 ^ 60) - (8 * vec_len c.self.inside.bytes + c.self.inside.count) ≡ c.args.self.now.spare = ap (λ (w : Written). w.spare) c.self.view_is in
    (c.if-count-lt-WORD.true, number, omega (arith, spare, c.requires.room, c.self.invariant.2))

pub join-requires-clause-high : goal.join-requires-clause-high
join-requires-clause-high c =
    let whole : c.self.inside.count + (64 - c.self.inside.count) ≡ 64 = omega (arith, c.self.invariant.0) in
    subst (λ k. c.self.inside.partial * 2 ^ (64 - c.self.inside.count) < 2 ^ k) whole (shl_below c.self.inside.partial c.self.inside.count (64 - c.self.inside.count) c.self.invariant.1)

pub join-requires-clause-low : goal.join-requires-clause-low
join-requires-clause-low c =
    let sum : c.args.width ≡ (64 - c.self.inside.count) + (c.self.inside.count + c.args.width - 64) = omega (arith, c.self.invariant.0, c.if-count-lt-WORD.false) in
    shr_below c.args.value (64 - c.self.inside.count) (c.self.inside.count + c.args.width - 64) (subst (λ k. c.args.value < 2 ^ k) sum c.requires.fits)

pub returns-then-count-lt-WORD-clause-bits : goal.returns-then-count-lt-WORD-clause-bits
returns-then-count-lt-WORD-clause-bits c =
    put_bits c.self.inside.bytes.items _ _ _ _ _ c.requires.fits c.join-self-inside.ensures ∙ ap (λ (w : Written). w.bits ++ bits_of c.args.width c.args.value) c.self.view_is

pub returns-else-count-lt-WORD-clause-bits : goal.returns-else-count-lt-WORD-clause-bits
returns-else-count-lt-WORD-clause-bits c =
    let few : c.self.inside.count ≤ 64 = omega (arith, c.self.invariant.0) in
    let full : 64 ≤ c.self.inside.count + c.args.width = omega (arith, c.if-count-lt-WORD.false) in
    word_moves _ _ c.self.inside.count c.args.width _ _ _ _ few full c.requires.fits c.join.ensures c.low_bits-self-inside.ensures c.push_word.ensures.bits
    ∙ ap (λ (w : Written). w.bits ++ bits_of c.args.width c.args.value) c.self.view_is
