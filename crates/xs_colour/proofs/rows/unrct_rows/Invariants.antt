use Rattle.std.proofs.Common.{◌≡◌, ℕ, ◌<◌, ◌≤◌}
use Rattle.xs_signal.specs.Colour.{unrct}
use Rattle.xs_signal.specs.Lines.{entries_of}
use Rattle.xs_colour.proofs.rows.unrct_rows.Given as goal

abbrev pub invariant-loop-k : goal.invariant-loop-k
invariant-loop-k l = record {
  red : (j : ℕ) → j < l.k → entries_of l.luma j ≡ (unrct (entries_of l.fn.luma j) (entries_of l.fn.first j) (entries_of l.fn.second j)).0;
  green : (j : ℕ) → j < l.k → entries_of l.first j ≡ (unrct (entries_of l.fn.luma j) (entries_of l.fn.first j) (entries_of l.fn.second j)).1;
  blue : (j : ℕ) → j < l.k → entries_of l.second j ≡ (unrct (entries_of l.fn.luma j) (entries_of l.fn.first j) (entries_of l.fn.second j)).2;
  luma : (j : ℕ) → l.k ≤ j → entries_of l.luma j ≡ entries_of l.fn.luma j;
  first : (j : ℕ) → l.k ≤ j → entries_of l.first j ≡ entries_of l.fn.first j;
  second : (j : ℕ) → l.k ≤ j → entries_of l.second j ≡ entries_of l.fn.second j;
}
