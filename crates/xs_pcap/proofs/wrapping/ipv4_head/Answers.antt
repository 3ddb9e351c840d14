use Rattle.std.proofs.Common.{ap, ◌∙◌}
use Rattle.xs_pcap.specs.Numbers.{checksum_of}
use Rattle.xs_pcap.specs.Wrapped.{ipv4_checksum, ipv4_with}
use Rattle.xs_pcap.proofs.wrapping.ipv4_head.Goals as goal

pub returns : goal.returns
unfolding ipv4_checksum
returns c = c.ipv4_with-2.ensures ∙ ap (ipv4_with c.args.total) (c.checksum_of.ensures ∙ ap checksum_of c.ipv4_with.ensures)
