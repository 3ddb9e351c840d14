use Rattle.std.proofs.Common.{refl, ap, ◌∙◌, ◌++◌, ◌+◌, arith}
use Rattle.xs_lists.specs.Bits.{bits_of}
use Rattle.xs_bits.proofs.Laws.{ones_moves, bits_of_unary}
use Rattle.xs_bits.proofs.writer.BitWriter.put_unary.Goals as goal

pub filling-preserved : goal.filling-preserved
filling-preserved c = record {
  room = omega (arith, c.filling-test.true, c.filling.invariant.room, c.put.ensures.spare);
  spare = omega (arith, c.filling-test.true, c.filling.invariant.spare, c.put.ensures.spare);
  bits = ones_moves c.filling.self.bits c.put.new.self.bits 32 c.filling.left 4294967295 c.filling-test.true refl c.put.ensures.bits ∙ c.filling.invariant.bits;
}

pub returns-clause-bits : goal.returns-clause-bits
returns-clause-bits c =
    c.put-2.ensures.bits ∙ ap (λ l. c.filling.self.bits ++ l) (ap (bits_of (c.filling.left + 1)) c.unary.ensures ∙ bits_of_unary c.filling.left) ∙ c.filling.invariant.bits
