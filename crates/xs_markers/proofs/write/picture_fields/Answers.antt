use Rattle.std.proofs.Common.{arith}
use Rattle.xs_markers.proofs.write.picture_fields.Goals as goal

pub returns-clause-lcod : goal.returns-clause-lcod
returns-clause-lcod c = omega (arith, c.stated_length.ensures, c.stated_length.type_inv)
