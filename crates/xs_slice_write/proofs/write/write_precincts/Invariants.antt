use Rattle.std.proofs.Common.{◌≡◌, ◌-◌, ◌++◌}
use Rattle.std.specs.List.{flat_map, range_with_len}
use Rattle.xs_grammar.specs.Coded.{precinct_bytes}
use Rattle.xs_grammar.specs.Slice.{slice_head}
use Rattle.xs_precinct_write.specs.Outgoing.{HaveRoom}
use Rattle.xs_precinct_write.specs.Sent.{content_in, modes_in}
use Rattle.xs_slice_write.specs.Written.{last_filler}
use Rattle.xs_slice_write.proofs.write.write_precincts.Given as goal

abbrev pub invariant-precincts : goal.invariant-precincts
invariant-precincts l = record {
  whole : slice_head l.planned.slice ++ flat_map (precinct_bytes l.planned.at.header.now (content_in l.planned.at) (modes_in l.planned.at) (last_filler l.planned.at.header.now l.planned.slice l.planned.filler)) (range_with_len l.first (l.end - l.first))
      ≡ l.out ++ flat_map (precinct_bytes l.planned.at.header.now (content_in l.planned.at) (modes_in l.planned.at) (last_filler l.planned.at.header.now l.planned.slice l.planned.filler)) (range_with_len l.precinct (l.end - l.precinct));
  room : HaveRoom l.planned.at.header.now l.scratch.lines.items;
}
