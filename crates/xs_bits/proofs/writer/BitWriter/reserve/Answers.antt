use Rattle.std.proofs.Common.{length, min, ap, ◌≡◌, ◌+◌, ◌-◌, ◌*◌, ◌^◌, ◌∙◌, sym, arith, vec_len, vec_capacity}
use Rattle.xs_bits.specs.Written.{Written}
use Rattle.xs_bits.proofs.Laws.{length-written}
use Rattle.xs_bits.proofs.writer.BitWriter.reserve.Goals as goal
use Rattle.xs_bits.proofs.writer.BitWriter.reserve.Goals.{in-Ok, in-Err}

pub overflow_sub-len : goal.overflow_sub-len
overflow_sub-len c =
    let bits : 8 * length c.self.inside.bytes.items + c.self.inside.count ≡ length c.args.self.now.bits = sym (length-written _ _ _) ∙ ap (λ (w : Written). length w.bits) c.self.view_is in
    omega (arith, bits, c.len.ensures.count, c.self.invariant.2)

pub returns-then-bits-len-clause-enough : goal.returns-then-bits-len-clause-enough
returns-then-bits-len-clause-enough c = λ fits.
    let bits : 8 * length c.self.inside.bytes.items + c.self.inside.count ≡ length c.args.self.now.bits = sym (length-written _ _ _) ∙ ap (λ (w : Written). length w.bits) c.self.view_is in
    let spare : min (8 * vec_capacity c.self.inside.bytes) (2 ^ 60) - (8 * vec_len c.self.inside.bytes + c.self.inside.count) ≡ c.args.self.now.spare = ap (λ (w : Written). w.spare) c.self.view_is in
    absurd (omega (arith, fits, bits, spare, c.len.ensures.count, c.if-bits-len.true, c.self.invariant.2))

pub returns-clause-room : goal.returns-clause-room
returns-clause-room c =
    let bits : 8 * length c.self.inside.bytes.items + c.self.inside.count ≡ length c.args.self.now.bits = sym (length-written _ _ _) ∙ ap (λ (w : Written). length w.bits) c.self.view_is in
    elim c.match-reserve.branch [
      | in-Ok w ↦ rw w.result-is (omega (arith, bits, c.len.ensures.count, c.if-bits-len.false, w.in-Ok.ensures.ok, c.reserve.ensures.len, c.reserve.ensures.capacity))
      | in-Err w ↦ rw w.result-is tt
    ]
