use Rattle.xs_wave.specs.Levels.{split_by}
use Rattle.xs_wave.proofs.Blanks.{AreBlank}
use Rattle.xs_wave.proofs.bands.BandPlanes.blank.Given as goal

abbrev pub invariant-loop-number : goal.invariant-loop-number
invariant-loop-number l = AreBlank (split_by l.levels) l.number l.bands
