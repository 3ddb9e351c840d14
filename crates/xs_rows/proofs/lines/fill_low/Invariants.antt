use Rattle.std.proofs.Common.{◌≡◌, ℕ, ◌-◌, ◌*◌, ◌<◌, length, ◌+ℤ◌}
use Rattle.xs_signal.specs.Lines.{entries_of}
use Rattle.xs_signal.specs.Wavelet.{updated}
use Rattle.xs_rows.proofs.lines.fill_low.Given as goal

abbrev pub invariant-loop-k : goal.invariant-loop-k
invariant-loop-k l = record {
  left : l.left ≡ entries_of l.high (l.k - 1);
  done : (j : ℕ) → j < l.k → entries_of l.low j ≡ entries_of l.line (2 * j) +ℤ updated (length l.line) (entries_of l.high) j;
}
