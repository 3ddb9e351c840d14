use Rattle.std.proofs.Common.{arith}
use Rattle.xs_markers.proofs.UnitsKnown.{header_units_known}
use Rattle.xs_slice_read.proofs.Precincts.{are_bytes}
use Rattle.xs_recv.proofs.head.spell_header.Goals as goal

pub returns : goal.returns
returns c = (header_units_known c.args.bytes.now (are_bytes c.args.bytes.now (λ i. omega (arith, c.type_inv.bytes i)))).spelled
