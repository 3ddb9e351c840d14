use Rattle.std.proofs.Common.{◌≡◌, ◌*◌}
use Rattle.xs_lists.proofs.Puts.{put_to}
use Rattle.xs_quant.specs.Rows.{raised}
use Rattle.xs_quant.proofs.rows.raise_to_steps.Given as goal

abbrev pub invariant-groups : goal.invariant-groups
invariant-groups l = l.row ≡ put_to (raised l.by l.counts l.values) l.fn.row (4 * l.group)

abbrev pub invariant-rest : goal.invariant-rest
invariant-rest l = l.row ≡ put_to (raised l.by l.counts l.values) l.fn.row l.column
