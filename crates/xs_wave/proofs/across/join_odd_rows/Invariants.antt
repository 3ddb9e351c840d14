use Rattle.std.proofs.Common.{◌≡◌, ℕ, ◌*◌, ◌<◌, get_or, []}
use Rattle.xs_signal.specs.Wavelet.{inverse_line}
use Rattle.xs_wave.specs.Planes.{plane_of}
use Rattle.xs_wave.specs.Corners.{SameShape, odd_rows}
use Rattle.xs_wave.proofs.across.join_odd_rows.Given as goal

abbrev pub invariant-loop-at : goal.invariant-loop-at
invariant-loop-at l = record {
  done : (row column : ℕ) → row < l.at → column < l.width → odd_rows (plane_of l.plane) row column ≡ inverse_line l.width (plane_of l.low row) (plane_of l.high row) column;
  even : (row : ℕ) → get_or l.plane (2 * row) [] ≡ get_or l.fn.plane (2 * row) [];
  shape : SameShape l.fn.plane l.plane;
}
