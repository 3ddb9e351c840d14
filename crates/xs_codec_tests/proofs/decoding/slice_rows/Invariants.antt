use Rattle.xs_codec_tests.specs.Made.{IsMade}
use Rattle.xs_codec_tests.proofs.decoding.slice_rows.Given as goal

abbrev pub invariant-loop-precinct : goal.invariant-loop-precinct
invariant-loop-precinct l = IsMade l.geometry l.slice l.rows
