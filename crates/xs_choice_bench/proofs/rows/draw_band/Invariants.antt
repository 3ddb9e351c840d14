use Rattle.std.proofs.Common.{ℕ, ◌≤◌}
use Rattle.xs_geometry.specs.SliceLines.{HasLine}
use Rattle.xs_choice_bench.specs.Drawn.{AreSmallLines, KeepsLines}
use Rattle.xs_choice_bench.proofs.rows.draw_band.Given as goal

abbrev pub invariant-lines : goal.invariant-lines
invariant-lines l = record {
  from : l.first ≤ l.line;
  small : AreSmallLines l.rows;
  kept : KeepsLines l.initial.rows l.rows;
  there : (line : ℕ) → HasLine l.initial.rows l.band line → HasLine l.rows l.band line;
}
