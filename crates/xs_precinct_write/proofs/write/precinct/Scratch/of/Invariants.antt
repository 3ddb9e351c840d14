use Rattle.std.proofs.Common.{◌≡◌, ℕ, ◌<◌, length}
use Rattle.std.specs.Prelude.{slice_index_or}
use Rattle.xs_layout.specs.Geometry.{groups_of}
use Rattle.xs_params.specs.Geometry.{band_width_of}
use Rattle.xs_precinct_write.specs.Outgoing.{no_outgoing}
use Rattle.xs_precinct_write.proofs.write.precinct.Scratch.of.Given as goal

abbrev pub invariant-bands : goal.invariant-bands
invariant-bands l = record {
  count : length l.lines.items ≡ l.band;
  groups : (band : ℕ) → band < l.band → length (slice_index_or l.lines.items band no_outgoing).counts ≡ groups_of (band_width_of l.geometry band);
}
