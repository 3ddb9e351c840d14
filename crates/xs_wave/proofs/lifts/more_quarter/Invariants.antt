use Rattle.std.proofs.Common.{◌≡◌, ℕ, ◌+◌, ◌<◌, ◌≤◌, ◌⊎◌, pos, ◌+ℤ◌}
use Rattle.std.specs.Int.{int_shr}
use Rattle.xs_signal.specs.Lines.{entries_of}
use Rattle.xs_wave.proofs.lifts.more_quarter.Given as goal

abbrev pub invariant-loop-k : goal.invariant-loop-k
invariant-loop-k l = record {
  done : (j : ℕ) → j < l.k → entries_of l.numbers (l.row + j) ≡ entries_of l.fn.numbers (l.row + j) +ℤ int_shr (entries_of l.fn.numbers (l.above + j) +ℤ entries_of l.fn.numbers (l.below + j) +ℤ pos 2) 2;
  others : (place : ℕ) → (place < l.row ⊎ l.row + l.k ≤ place) → entries_of l.numbers place ≡ entries_of l.fn.numbers place;
}
