use Rattle.std.proofs.Common.{◌≡◌, ◌+◌, ◌*◌, ◌%◌, ◌<◌, ◌≤◌, ◌++◌, vec_len, vec_capacity}
use Rattle.xs_lists.specs.Bits.{bits_of, bits_of_bytes}
use Rattle.xs_bits.proofs.writer.push_bytes.Given as goal

abbrev pub invariant-moving : goal.invariant-moving
invariant-moving l = record {
  few : l.left < 64;
  border : l.left % 8 ≡ 0;
  room : 8 * vec_len l.bytes + l.left ≤ 8 * vec_capacity l.bytes;
  moved : bits_of_bytes l.bytes.items ++ bits_of l.left l.number ≡ bits_of_bytes l.initial.bytes.items ++ bits_of l.count l.number;
}

abbrev pub decreases-moving : goal.decreases-moving
decreases-moving l = l.left
