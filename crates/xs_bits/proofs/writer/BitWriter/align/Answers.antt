use Rattle.std.proofs.Common.{ℕ, length, replicate, ap, sym, ◌∙◌, ◌++◌, ◌+◌, ◌-◌, ◌*◌, ◌%◌, ◌≡◌, arith, length-append}
use Rattle.std.proofs.lemmas.List.{length-replicate}
use Rattle.xs_bits.specs.Written.{Written}
use Rattle.xs_lists.specs.Packing.{missing_bits}
use Rattle.xs_bits.proofs.Laws.{length-written, bits_of_zero}
use Rattle.xs_bits.proofs.writer.BitWriter.align.Goals as goal

pub returns-clause-bits : goal.returns-clause-bits
returns-clause-bits c =
    let bits : 8 * length c.put.inside.bytes.items + c.put.inside.count ≡ length c.args.self.now.bits = sym (length-written _ _ _) ∙ ap (λ (w : Written). length w.bits) c.put.view_is in
    let padding : (8 - c.put.inside.count % 8) % 8 ≡ missing_bits (length c.args.self.now.bits) = omega (arith, bits) in
    c.put-2.ensures.bits ∙ ap (λ l. c.args.self.now.bits ++ l) (bits_of_zero _ ∙ ap (λ k. replicate {A = ℕ} k 0) padding)

pub returns-clause-border : goal.returns-clause-border
returns-clause-border c =
    let bits : 8 * length c.put.inside.bytes.items + c.put.inside.count ≡ length c.args.self.now.bits = sym (length-written _ _ _) ∙ ap (λ (w : Written). length w.bits) c.put.view_is in
    let padding : (8 - c.put.inside.count % 8) % 8 ≡ missing_bits (length c.args.self.now.bits) = omega (arith, bits) in
    let zeros = replicate {A = ℕ} (missing_bits (length c.args.self.now.bits)) 0 in
    let now : c.put-2.new.self.bits ≡ c.args.self.now.bits ++ zeros = c.put-2.ensures.bits ∙ ap (λ l. c.args.self.now.bits ++ l) (bits_of_zero _ ∙ ap (λ k. replicate {A = ℕ} k 0) padding) in
    omega (arith, ap length now, length-append c.args.self.now.bits zeros, length-replicate {A = ℕ} (missing_bits (length c.args.self.now.bits)) 0)

pub returns-clause-spare : goal.returns-clause-spare
returns-clause-spare c =
    let bits : 8 * length c.put.inside.bytes.items + c.put.inside.count ≡ length c.args.self.now.bits = sym (length-written _ _ _) ∙ ap (λ (w : Written). length w.bits) c.put.view_is in
    let padding : (8 - c.put.inside.count % 8) % 8 ≡ missing_bits (length c.args.self.now.bits) = omega (arith, bits) in
    omega (arith, padding, c.put-2.ensures.spare)
