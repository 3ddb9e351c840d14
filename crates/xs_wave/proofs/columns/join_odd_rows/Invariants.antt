use Rattle.std.proofs.Common.{◌≡◌, ℕ, ◌+◌, ◌*◌, ◌<◌, ◌≤◌, get_or, [], ◌+ℤ◌}
use Rattle.xs_signal.specs.Lines.{column_of}
use Rattle.xs_signal.specs.Wavelet.{predicted_sample}
use Rattle.xs_wave.specs.Planes.{plane_of}
use Rattle.xs_wave.specs.Corners.{SameShape, even_rows, odd_rows}
use Rattle.xs_wave.proofs.columns.join_odd_rows.Given as goal

abbrev pub invariant-loop-at : goal.invariant-loop-at
invariant-loop-at l = record {
  done : (row column : ℕ) → row < l.at → column < l.width → odd_rows (plane_of l.plane) row column ≡ odd_rows (plane_of l.fn.plane) row column +ℤ predicted_sample l.height (column_of (even_rows (plane_of l.fn.plane)) column) row;
  even : (row : ℕ) → get_or l.plane (2 * row) [] ≡ get_or l.fn.plane (2 * row) [];
  rest : (row : ℕ) → l.at ≤ row → get_or l.plane (2 * row + 1) [] ≡ get_or l.fn.plane (2 * row + 1) [];
  shape : SameShape l.fn.plane l.plane;
}
