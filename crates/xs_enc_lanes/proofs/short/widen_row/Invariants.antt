use Rattle.std.proofs.Common.{◌≡◌}
use Rattle.xs_enc_lanes.proofs.Copies.{copied_to}
use Rattle.xs_enc_lanes.proofs.short.widen_row.Given as goal

abbrev pub invariant-columns : goal.invariant-columns
invariant-columns l = l.row ≡ copied_to l.numbers l.initial.row l.column
