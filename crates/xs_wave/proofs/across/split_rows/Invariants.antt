use Rattle.std.proofs.Common.{◌≡◌, ℕ, ◌<◌, ◌≤◌, get_or, [], length}
use Rattle.xs_signal.specs.Wavelet.{low_count, high_count, low_of, high_of}
use Rattle.xs_wave.specs.Planes.{plane_of}
use Rattle.xs_wave.specs.Corners.{SameShape, rows_by}
use Rattle.xs_wave.proofs.across.split_rows.Given as goal

abbrev pub invariant-loop-at : goal.invariant-loop-at
invariant-loop-at l = record {
  lows : (row column : ℕ) → row < l.at → column < low_count l.width → plane_of l.plane row column ≡ low_of l.width (rows_by l.step (plane_of l.fn.plane) row) column;
  highs : (row column : ℕ) → row < l.at → column < high_count l.width → plane_of l.high row column ≡ high_of l.width (rows_by l.step (plane_of l.fn.plane) row) column;
  rest : (row : ℕ) → l.at ≤ row → get_or l.plane row [] ≡ get_or l.fn.plane row [];
  shape : SameShape l.fn.plane l.plane;
  high_shape : SameShape l.fn.high l.high;
  line : length l.line ≡ low_count l.width;
}
