use Rattle.xs_bits.proofs.Windows.{number_bits}
use Rattle.xs_bits.proofs.window.number_of.Goals as goal

pub returns : goal.returns
returns c =
    number_bits c.args.bytes.now c.from_be_bytes.result c.told-bytes c.fits-bytes c.from_be_bytes.ensures
