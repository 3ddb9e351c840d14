use Rattle.std.proofs.Common.{◌≡◌, ◌≤◌, ◌++◌, ap, sym, ◌∙◌, arith, append-nil}
use Rattle.xs_lists.specs.Bits.{bits_of, bits_of_bytes}
use Rattle.xs_bits.proofs.Laws.{byte_moves, bits_of_none}
use Rattle.xs_bits.proofs.writer.push_bytes.Goals as goal

pub moving-preserved : goal.moving-preserved
moving-preserved c =
    let enough : 8 ≤ c.moving.left = omega (arith, c.moving-test.true, c.moving.invariant.border) in
    record {
      few = omega arith;
      border = omega (arith, c.moving.invariant.border, enough);
      room = omega arith;
      moved = byte_moves _ _ _ _ _ enough c.push_byte.ensures.bits c.byte_above.ensures ∙ c.moving.invariant.moved;
    }

pub returns : goal.returns
returns c =
    let none : c.moving.left ≡ 0 = omega (arith, c.moving-test.false) in
    sym (ap (λ l. bits_of_bytes c.moving.bytes.items ++ l) (ap (λ k. bits_of k c.args.number) none ∙ bits_of_none c.args.number) ∙ append-nil (bits_of_bytes c.moving.bytes.items)) ∙ c.moving.invariant.moved
