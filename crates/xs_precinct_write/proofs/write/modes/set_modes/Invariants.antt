use Rattle.std.proofs.Common.{◌≡◌, ℕ, ◌<◌}
use Rattle.std.specs.Prelude.{slice_index_or}
use Rattle.xs_precinct_write.specs.Outgoing.{HaveRoom, no_outgoing}
use Rattle.xs_precinct_write.specs.Sent.{modes_in}
use Rattle.xs_precinct_write.proofs.write.modes.set_modes.Given as goal

abbrev pub invariant-bands : goal.invariant-bands
invariant-bands l = record {
  room : HaveRoom l.at.header.now l.lines;
  modes : (band : ℕ) → band < l.band → (slice_index_or l.lines band no_outgoing).mode ≡ modes_in l.at l.wanted.precinct band;
}
