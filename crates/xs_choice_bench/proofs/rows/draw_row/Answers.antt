use Rattle.std.proofs.Common.{◌≡◌, [], ◌∷◌, ◌++◌, length, ap, subst, sym, arith}
use Rattle.xs_signal.specs.Lines.{entries_of}
use Rattle.xs_rate.specs.Laws.{IsSmallRow}
use Rattle.std.proofs.Common.{length-append}
use Rattle.xs_choice_bench.proofs.Smallness.{read_small, small_more}
use mir.Syntax.{w32}
use mir.Val.{of_z, to_z}
use Rattle.xs_choice_bench.proofs.rows.draw_row.Goals as goal

pub columns-preserved : goal.columns-preserved
columns-preserved c =
    let z = to_z w32 (of_z w32 c.number_of.result) in
    let added : c.push.new.row.items ≡ c.columns.row.items ++ z ∷ [] = c.in_ok-push.ensures in
    record {
      within = omega (arith, ap length added, length-append c.columns.row.items (z ∷ []), c.columns-test.true);
      small = subst (λ row. IsSmallRow (entries_of row)) (sym added) (small_more c.columns.row.items z c.columns.invariant.small (read_small c.number_of.result c.number_of.ensures));
    }
