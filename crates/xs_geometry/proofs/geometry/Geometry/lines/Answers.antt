use Rattle.std.proofs.Common.{arith}
use Rattle.xs_geometry.proofs.Counts.{precincts_most}
use Rattle.xs_geometry.proofs.geometry.Geometry.lines.Goals as goal

pub cut-requires-clause-count : goal.cut-requires-clause-count
cut-requires-clause-count c = omega (arith, c.requires.precinct, precincts_most _ c.precinct_lines-lines.ensures.ranges)

pub overflow_add-precinct : goal.overflow_add-precinct
overflow_add-precinct c = omega (arith, c.requires.precinct, precincts_most _ c.precinct_lines-lines.ensures.ranges)

pub cut-requires-2-clause-count : goal.cut-requires-2-clause-count
cut-requires-2-clause-count c = omega (arith, c.requires.precinct, precincts_most _ c.precinct_lines-lines.ensures.ranges)
