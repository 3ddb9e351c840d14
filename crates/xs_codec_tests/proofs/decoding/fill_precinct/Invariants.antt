use Rattle.xs_codec_tests.specs.Made.{IsMade}
use Rattle.xs_codec_tests.proofs.decoding.fill_precinct.Given as goal

abbrev pub invariant-loop-band : goal.invariant-loop-band
invariant-loop-band l = IsMade l.geometry l.slice l.rows
