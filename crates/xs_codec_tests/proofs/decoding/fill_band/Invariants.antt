use Rattle.xs_codec_tests.specs.Made.{IsMade}
use Rattle.xs_codec_tests.proofs.decoding.fill_band.Given as goal

abbrev pub invariant-loop-line : goal.invariant-loop-line
invariant-loop-line l = IsMade l.geometry l.slice l.rows
