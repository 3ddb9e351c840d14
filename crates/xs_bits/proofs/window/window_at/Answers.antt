use Rattle.std.proofs.Common.{refl}
use Rattle.xs_bits.proofs.Windows.{window_inside}
use Rattle.xs_bits.proofs.window.window_at.Goals as goal

pub returns-clause-bits : goal.returns-clause-bits
returns-clause-bits c = window_inside c.args.bytes.now _ c.args.place c.number_at.result _ c.requires.there refl c.number_at.ensures c.bits_after.ensures
