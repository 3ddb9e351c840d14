use Rattle.std.proofs.Common.{◌+◌, sum_by, ap, arith}
use Rattle.xs_geometry.specs.SliceLines.{rows_held}
use Rattle.xs_lists.proofs.Ranges.{range_end, sum_first}
use Rattle.xs_rate.specs.Choice.{precinct_size_at}
use Rattle.xs_sizes.specs.Measured.{header_in}
use Rattle.xs_sizes.proofs.Measuring.{precinct_in, precincts_are}
use Rattle.xs_sizes.proofs.measure.slice_size.Goals as goal

pub precincts-init : goal.precincts-init
precincts-init c = record {
  from = omega arith;
  few = omega arith;
  left = λ bands weights candidate coded.
      ap (λ l. 6 + sum_by (precinct_size_at (header_in c.args.coding.now weights) (rows_held bands) candidate) l)
      (precincts_are c.args.coding.now.geometry.now c.args.slice c.precincts_in-first.result.0 c.precincts_in-first.result.1 c.precincts_in-first.ensures.first c.precincts_in-first.ensures.end);
}

pub precinct_size-bytes-requires-clause-coding : goal.precinct_size-bytes-requires-clause-coding
precinct_size-bytes-requires-clause-coding c = (
  c.args.slice,
  c.requires.coding.0,
  c.requires.coding.1,
  precinct_in c.args.coding.now.geometry.now c.args.slice c.precincts_in-first.result.0 c.precincts_in-first.result.1 c.precincts.precinct
      c.precincts_in-first.ensures.first c.precincts_in-first.ensures.end c.precincts.invariant.from c.precincts-test.true,
)

pub precincts-preserved : goal.precincts-preserved
precincts-preserved c = record {
  from = omega (arith, c.precincts.invariant.from);
  few = omega (arith, c.precincts.invariant.from, c.precincts.invariant.few, c.precinct_size-bytes.ensures.few);
  left = λ bands weights candidate coded. (
      let there = precinct_in c.args.coding.now.geometry.now c.args.slice c.precincts_in-first.result.0 c.precincts_in-first.result.1 c.precincts.precinct c.precincts_in-first.ensures.first c.precincts_in-first.ensures.end c.precincts.invariant.from c.precincts-test.true in
      let own = c.precinct_size-bytes.ensures.bytes c.args.slice bands weights candidate coded there in
      let more = sum_first (precinct_size_at (header_in c.args.coding.now weights) (rows_held bands) candidate) c.precincts.precinct c.precincts_in-first.result.1 c.precincts-test.true in
      omega (arith, own, more, c.precincts.invariant.left bands weights candidate coded));
}

pub returns-clause-size : goal.returns-clause-size
returns-clause-size c bands weights candidate coded =
    let none = ap (sum_by (precinct_size_at (header_in c.args.coding.now weights) (rows_held bands) candidate)) (range_end c.precincts.precinct c.precincts_in-first.result.1 (omega (arith, c.precincts-test.false))) in
    omega (arith, none, c.precincts.invariant.left bands weights candidate coded)
