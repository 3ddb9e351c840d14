use Rattle.std.proofs.Common.{◌≡◌, length}
use Rattle.xs_signal.specs.Wavelet.{low_count}
use Rattle.xs_wave.specs.Corners.{part_at}
use Rattle.xs_wave.specs.Planes.{plane_of, HasSize}
use Rattle.xs_wave.specs.Levels.{split_by}
use Rattle.xs_wave.specs.Steps.{IsSplitTo}
use Rattle.xs_wave.proofs.analysis.analyse_plane.Given as goal

abbrev pub invariant-loop-level : goal.invariant-loop-level
invariant-loop-level l = record {
  split : IsSplitTo (split_by l.levels) (plane_of l.plane) l.level (part_at (split_by l.levels) l.level l.work) l.bands;
  size : HasSize l.levels.width l.levels.height l.work;
  line : length l.line.items ≡ low_count l.levels.width;
}
