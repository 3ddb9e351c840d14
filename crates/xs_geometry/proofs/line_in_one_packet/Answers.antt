use Rattle.xs_geometry.proofs.PacketLines as packets
use Rattle.xs_geometry.proofs.line_in_one_packet.Goals as goal

pub returns : goal.returns
returns c = packets.line_in_one_packet
