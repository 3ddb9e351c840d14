use Rattle.std.proofs.Common.{take}
use Rattle.xs_enc_lanes.specs.Placed.{AreGathered}
use Rattle.xs_enc_lanes.proofs.put.put_values.Given as goal

abbrev pub invariant-values : goal.invariant-values
invariant-values l = AreGathered l.header l.slice (take l.value-index l.values) l.rows
