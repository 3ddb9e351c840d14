use Rattle.std.proofs.Common.{◌≡◌, ℕ, ◌<◌}
use Rattle.xs_signal.specs.Wavelet.{low_count, high_count, low_of, high_of}
use Rattle.xs_wave.specs.Planes.{plane_of}
use Rattle.xs_wave.specs.Corners.{SameShape, odd_rows}
use Rattle.xs_wave.proofs.across.split_odd_rows.Given as goal

abbrev pub invariant-loop-at : goal.invariant-loop-at
invariant-loop-at l = record {
  lows : (row column : ℕ) → row < l.at → column < low_count l.width → plane_of l.low row column ≡ low_of l.width (odd_rows (plane_of l.plane) row) column;
  highs : (row column : ℕ) → row < l.at → column < high_count l.width → plane_of l.high row column ≡ high_of l.width (odd_rows (plane_of l.plane) row) column;
  low_shape : SameShape l.fn.low l.low;
  high_shape : SameShape l.fn.high l.high;
}
