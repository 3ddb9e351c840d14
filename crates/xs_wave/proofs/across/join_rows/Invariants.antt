use Rattle.std.proofs.Common.{◌≡◌, ℕ, ◌<◌, ◌≤◌, get_or, [], length}
use Rattle.xs_signal.specs.Wavelet.{low_count, inverse_line}
use Rattle.xs_wave.specs.Planes.{plane_of}
use Rattle.xs_wave.specs.Corners.{SameShape, rows_by}
use Rattle.xs_wave.proofs.across.join_rows.Given as goal

abbrev pub invariant-loop-at : goal.invariant-loop-at
invariant-loop-at l = record {
  inside : l.at ≤ l.height;
  done : (row column : ℕ) → l.at ≤ row → row < l.height → column < l.width → rows_by l.step (plane_of l.plane) row column ≡ inverse_line l.width (plane_of l.fn.plane row) (plane_of l.high row) column;
  rest : (row : ℕ) → row < l.at → get_or l.plane row [] ≡ get_or l.fn.plane row [];
  shape : SameShape l.fn.plane l.plane;
  line : length l.line ≡ low_count l.width;
}

abbrev pub decreases-loop-at : goal.decreases-loop-at
decreases-loop-at l = l.at
