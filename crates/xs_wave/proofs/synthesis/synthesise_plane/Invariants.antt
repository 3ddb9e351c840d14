use Rattle.std.proofs.Common.{◌≡◌, ◌≤◌, length}
use Rattle.xs_signal.specs.Wavelet.{low_count}
use Rattle.xs_wave.specs.Corners.{part_at}
use Rattle.xs_wave.specs.Planes.{HasSize}
use Rattle.xs_wave.specs.Levels.{split_by}
use Rattle.xs_wave.specs.Steps.{IsJoinedTo}
use Rattle.xs_wave.proofs.synthesis.synthesise_plane.Given as goal

abbrev pub invariant-loop-level : goal.invariant-loop-level
invariant-loop-level l = record {
  inside : l.level ≤ l.nlx;
  joined : IsJoinedTo (split_by l.levels) l.bands l.level (part_at (split_by l.levels) l.level l.plane);
  size : HasSize l.levels.width l.levels.height l.plane;
  line : length l.line.items ≡ low_count l.levels.width;
}

abbrev pub decreases-loop-level : goal.decreases-loop-level
decreases-loop-level l = l.level
