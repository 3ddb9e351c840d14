use Rattle.std.proofs.Common.{◌-◌, ◌≤◌, length}
use Rattle.xs_signal.specs.Lines.{entries_of}
use Rattle.xs_rate.specs.Laws.{IsSmallRow}
use Rattle.xs_choice_bench.proofs.rows.draw_row.Given as goal

abbrev pub invariant-columns : goal.invariant-columns
invariant-columns l = record {
  within : length l.row.items ≤ l.width;
  small : IsSmallRow (entries_of l.row.items);
}

abbrev pub decreases-columns : goal.decreases-columns
decreases-columns l = l.width - length l.row.items
