use Rattle.std.proofs.Common.{length, ap, sym, ◌∙◌, ◌+◌, ◌*◌, ◌≡◌, arith}
use Rattle.xs_bits.specs.Written.{Written}
use Rattle.xs_bits.proofs.Laws.{length-written}
use Rattle.xs_bits.proofs.writer.BitWriter.finish.Goals as goal

pub push_bytes-requires-clause-border : goal.push_bytes-requires-clause-border
push_bytes-requires-clause-border c =
    let bits : 8 * length c.self.inside.bytes.items + c.self.inside.count ≡ length c.args.self.bits = sym (length-written _ _ _) ∙ ap (λ (w : Written). length w.bits) c.self.view_is in
    omega (arith, bits, c.requires.border)
