use Rattle.std.proofs.Common.{◌≡◌, ◌*◌, map}
use Rattle.std.specs.List.{fold}
use Rattle.xs_lists.specs.Fields.{half_word_at}
use Rattle.xs_lists.specs.Spelling.{upto}
use Rattle.xs_pcap.specs.Numbers.{ones_add}
use Rattle.xs_pcap.proofs.numbers.ones_sum.Given as goal

abbrev pub invariant-adding : goal.invariant-adding
invariant-adding l = l.sum ≡ fold ones_add 0 (map (λ i. half_word_at l.header (2 * i)) (upto l.k))
