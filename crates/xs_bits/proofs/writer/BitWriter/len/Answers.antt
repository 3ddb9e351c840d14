use Rattle.std.proofs.Common.{◌+◌, ◌*◌, ◌≡◌, length, sym, ap, ◌∙◌, arith}
use Rattle.xs_bits.specs.Written.{Written}
use Rattle.xs_bits.proofs.Laws.{length-written}
use Rattle.xs_bits.proofs.writer.BitWriter.len.Goals as goal

pub returns : goal.returns
returns c =
    let bits : 8 * length c.self.inside.bytes.items + c.self.inside.count ≡ length c.args.self.now.bits = sym (length-written _ _ _) ∙ ap (λ (w : Written). length w.bits) c.self.view_is in
    record { count = omega (arith, bits) }
