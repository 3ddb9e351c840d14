use Rattle.std.proofs.Common.{◌≡◌, ℕ, ◌<◌, ◌≤◌}
use Rattle.xs_signal.specs.Colour.{rct}
use Rattle.xs_signal.specs.Lines.{entries_of}
use Rattle.xs_colour.proofs.rows.rct_rows.Given as goal

abbrev pub invariant-loop-k : goal.invariant-loop-k
invariant-loop-k l = record {
  luma : (j : ℕ) → j < l.k → entries_of l.red j ≡ (rct (entries_of l.fn.red j) (entries_of l.fn.green j) (entries_of l.fn.blue j)).0;
  first : (j : ℕ) → j < l.k → entries_of l.green j ≡ (rct (entries_of l.fn.red j) (entries_of l.fn.green j) (entries_of l.fn.blue j)).1;
  second : (j : ℕ) → j < l.k → entries_of l.blue j ≡ (rct (entries_of l.fn.red j) (entries_of l.fn.green j) (entries_of l.fn.blue j)).2;
  red : (j : ℕ) → l.k ≤ j → entries_of l.red j ≡ entries_of l.fn.red j;
  green : (j : ℕ) → l.k ≤ j → entries_of l.green j ≡ entries_of l.fn.green j;
  blue : (j : ℕ) → l.k ≤ j → entries_of l.blue j ≡ entries_of l.fn.blue j;
}
