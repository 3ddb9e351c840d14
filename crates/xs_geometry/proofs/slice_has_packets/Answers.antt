use Rattle.xs_geometry.proofs.PacketLines as packets
use Rattle.xs_geometry.proofs.slice_has_packets.Goals as goal

pub returns : goal.returns
returns c = packets.slice_has_packets
