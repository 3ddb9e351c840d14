use Rattle.std.proofs.Common.{◌≡◌, ◌+◌, ◌-◌, ◌*◌, ◌≤◌, ◌++◌, length}
use Rattle.std.specs.Prelude.{slice_index_or}
use Rattle.std.specs.List.{flat_map, range_with_len}
use Rattle.xs_lists.specs.Bits.{bits_of}
use Rattle.xs_precinct_write.specs.Outgoing.{no_outgoing}
use Rattle.xs_precinct_write.proofs.write.precinct.with_head.Given as goal

abbrev pub invariant-modes : goal.invariant-modes
invariant-modes l = record {
  whole : l.initial.out.bits ++ flat_map (λ band. bits_of 2 (slice_index_or l.lines band no_outgoing).mode) (range_with_len 0 (length l.lines - 0))
      ≡ l.out.bits ++ flat_map (λ band. bits_of 2 (slice_index_or l.lines band no_outgoing).mode) (range_with_len l.band (length l.lines - l.band));
  spare : l.initial.out.spare ≤ l.out.spare + 2 * l.band;
}
