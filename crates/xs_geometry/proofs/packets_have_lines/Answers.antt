use Rattle.xs_geometry.proofs.PacketLines as packets
use Rattle.xs_geometry.proofs.packets_have_lines.Goals as goal

pub returns : goal.returns
returns c = packets.packets_have_lines
