use Rattle.std.proofs.Common.{◌≡◌, ℕ, ◌<◌}
use Rattle.xs_wave.specs.Planes.{plane_of}
use Rattle.xs_wave.specs.Corners.{SameShape}
use Rattle.xs_wave.proofs.across.copy_part.Given as goal

abbrev pub invariant-loop-at : goal.invariant-loop-at
invariant-loop-at l = record {
  done : (row column : ℕ) → row < l.at → column < l.width → plane_of l.to row column ≡ plane_of l.from row column;
  shape : SameShape l.fn.to l.to;
}
