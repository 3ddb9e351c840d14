use Rattle.std.proofs.Common.{◌≡◌, length}
use Rattle.xs_signal.specs.Lines.{entries_of}
use Rattle.xs_signal.specs.Wavelet.{even_of, odd_of}
use Rattle.xs_rows.specs.Halves.{ShowsPairs}
use Rattle.xs_rows.proofs.lines.join_pairs.Given as goal

abbrev pub invariant-loop-k : goal.invariant-loop-k
invariant-loop-k l = record {
  even : l.even ≡ even_of (length l.fn.line) (entries_of l.low) (entries_of l.high) l.k;
  pairs : ShowsPairs l.line l.k (even_of (length l.fn.line) (entries_of l.low) (entries_of l.high)) (odd_of (length l.fn.line) (entries_of l.low) (entries_of l.high));
}
