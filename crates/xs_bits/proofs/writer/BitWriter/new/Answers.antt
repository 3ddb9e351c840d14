use Rattle.std.proofs.Common.{ap, ◌++◌}
use Rattle.xs_lists.specs.Bits.{bits_of, bits_of_bytes}
use Rattle.xs_bits.proofs.writer.BitWriter.new.Goals as goal

pub returns : goal.returns
unfolding bits_of
returns c = record { empty = ap (λ l. bits_of_bytes l ++ bits_of 0 0) c.new.ensures.items }
