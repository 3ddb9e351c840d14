use Rattle.std.proofs.Common.{ℕ, ◌<◌, ◌≤◌}
use Rattle.std.specs.Prelude.{slice_index_or}
use Rattle.xs_grammar.specs.Precinct.{coded_line}
use Rattle.xs_precinct_write.specs.Outgoing.{IsSentAs, no_outgoing}
use Rattle.xs_precinct_write.specs.Sent.{AreLinesAlike, content_in}
use Rattle.xs_precinct_write.proofs.write.slice.load_lines.Given as goal

abbrev pub invariant-bands : goal.invariant-bands
invariant-bands l = record {
  alike : AreLinesAlike l.initial.lines l.lines;
  sent : (band : ℕ) → l.fn.bands.0 ≤ band → band < l.band → IsSentAs (coded_line l.at.header.now (content_in l.at) (slice_index_or l.initial.lines band no_outgoing).mode band l.number) (slice_index_or l.lines band no_outgoing);
}
