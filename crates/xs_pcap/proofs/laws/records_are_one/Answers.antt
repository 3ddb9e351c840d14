use Rattle.xs_pcap.proofs.Files.{records_are_one}
use Rattle.xs_pcap.proofs.laws.records_are_one.Goals as goal

pub returns : goal.returns
returns c = records_are_one
