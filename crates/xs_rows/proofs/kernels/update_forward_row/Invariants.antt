use Rattle.std.proofs.Common.{◌≡◌, ℕ, ◌<◌, ◌≤◌, pos, ◌+ℤ◌}
use Rattle.std.specs.Int.{int_shr}
use Rattle.xs_signal.specs.Lines.{entries_of}
use Rattle.xs_rows.proofs.kernels.update_forward_row.Given as goal

abbrev pub invariant-loop-k : goal.invariant-loop-k
invariant-loop-k l = record {
  done : (j : ℕ) → j < l.k → entries_of l.row j ≡ entries_of l.fn.row j +ℤ int_shr (entries_of l.above j +ℤ entries_of l.below j +ℤ pos 2) 2;
  rest : (j : ℕ) → l.k ≤ j → entries_of l.row j ≡ entries_of l.fn.row j;
}
