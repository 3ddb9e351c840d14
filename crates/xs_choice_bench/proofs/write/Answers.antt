use Rattle.std.proofs.Common.{subst}
use Rattle.xs_geometry.specs.SliceLines.{AreLinesOf}
use Rattle.xs_geometry.proofs.WrittenRows.{geometry_kept}
use Rattle.xs_choice_bench.proofs.write.Goals as goal

pub write_slice_in-requires-clause-lines : goal.write_slice_in-requires-clause-lines
write_slice_in-requires-clause-lines c = (geometry_kept c.in_ok-header.header 0 c.in_ok-rows.rows).0 (subst (λ g. AreLinesOf g 0 c.in_ok-rows.rows) c.of-geometry.ensures c.in_ok-rows.ensures.lines)
