use Rattle.std.proofs.Common.{◌≡◌, ℕ, ◌*◌, ◌<◌, length}
use Rattle.xs_signal.specs.Lines.{entries_of}
use Rattle.xs_signal.specs.Wavelet.{high_of}
use Rattle.xs_rows.proofs.lines.fill_high.Given as goal

abbrev pub invariant-loop-k : goal.invariant-loop-k
invariant-loop-k l = record {
  left : l.left ≡ entries_of l.line (2 * l.k);
  done : (j : ℕ) → j < l.k → entries_of l.high j ≡ high_of (length l.line) (entries_of l.line) j;
}
