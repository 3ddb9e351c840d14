use Rattle.std.proofs.Common.{refl, ◌∙◌, arith}
use Rattle.xs_geometry.specs.SliceLines.{rows_held}
use Rattle.xs_sizes.specs.Measured.{header_in}
use Rattle.xs_sizes.proofs.PacketSizes.{packet_sized, packet_fitting}
use Rattle.xs_sizes.proofs.packets.packet_size.Goals as goal

pub returns-clause-bytes : goal.returns-clause-bytes
returns-clause-bytes c slice bands weights candidate precinct place coded is =
    c.sized.ensures.bytes
    ∙ packet_sized (header_in c.args.coding.now weights) (rows_held bands) c.args.cuts.now candidate precinct c.args.packet.first c.args.packet.end place c.packet_bits.result refl is.at.order is.at.bands
    (λ band inside. coded.truncations band (omega (arith, inside, is.at.there, coded.count))) (c.packet_bits.ensures.bits slice bands weights precinct place is)

pub returns-clause-fits : goal.returns-clause-fits
returns-clause-fits c slice bands weights candidate precinct place coded is =
    c.sized.ensures.fits
    ∙ packet_fitting (header_in c.args.coding.now weights) (rows_held bands) c.args.cuts.now candidate precinct c.args.packet.first c.args.packet.end place c.packet_bits.result refl is.at.order is.at.bands
    (λ band inside. coded.truncations band (omega (arith, inside, is.at.there, coded.count))) (c.packet_bits.ensures.bits slice bands weights precinct place is)
