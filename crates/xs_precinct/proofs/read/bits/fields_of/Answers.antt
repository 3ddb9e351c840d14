use Rattle.std.proofs.Common.{length, ap, ◌∙◌}
use Rattle.xs_lists.proofs.Bits.{length-bits_of_bytes}
use Rattle.xs_precinct.proofs.Fields.{left_all}
use Rattle.xs_precinct.proofs.read.bits.fields_of.Goals as goal

pub returns-clause-size : goal.returns-clause-size
returns-clause-size c = ap length (left_all c.new.result c.args.bytes.now c.new.ensures.bits c.new.ensures.start) ∙ length-bits_of_bytes c.args.bytes.now
