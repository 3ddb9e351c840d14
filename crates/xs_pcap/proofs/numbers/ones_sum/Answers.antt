use Rattle.xs_pcap.proofs.Checksums.{sum_step}
use Rattle.xs_pcap.proofs.numbers.ones_sum.Goals as goal

pub adding-preserved : goal.adding-preserved
adding-preserved c = sum_step c.args.header.now c.adding.k c.adding.sum c.half_word_at.result c.ones_add-sum.result c.adding.invariant c.half_word_at.ensures c.ones_add-sum.ensures
