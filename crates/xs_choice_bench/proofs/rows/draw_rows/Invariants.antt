use Rattle.xs_geometry.specs.SliceLines.{AreLinesOf}
use Rattle.xs_choice_bench.specs.Drawn.{AreSmallLines}
use Rattle.xs_choice_bench.proofs.rows.draw_rows.Given as goal

abbrev pub invariant-bands : goal.invariant-bands
invariant-bands l = record {
  lines : AreLinesOf l.geometry 0 l.rows;
  small : AreSmallLines l.rows;
}
