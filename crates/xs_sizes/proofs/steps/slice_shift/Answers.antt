use Rattle.std.proofs.Common.{sum_by, ap, arith}
use Rattle.xs_geometry.specs.SliceLines.{rows_held}
use Rattle.xs_lists.proofs.Ranges.{range_end, sum_first}
use Rattle.xs_rate.specs.Choice.{precinct_size_at}
use Rattle.xs_sizes.specs.Measured.{header_in}
use Rattle.xs_sizes.proofs.Measuring.{precinct_in, precincts_are}
use Rattle.xs_sizes.proofs.Stepping.{shift_more, shift_done}
use Rattle.xs_sizes.proofs.steps.slice_shift.Goals as goal

pub precincts-init : goal.precincts-init
precincts-init c = record {
  from = omega arith;
  removed = omega arith;
  added = omega arith;
  left = λ bands weights old new step. (
      let same = precincts_are c.args.coding.now.geometry.now c.args.slice c.precincts_in-first.result.0 c.precincts_in-first.result.1 c.precincts_in-first.ensures.first c.precincts_in-first.ensures.end in
      let before = ap (sum_by (precinct_size_at (header_in c.args.coding.now weights) (rows_held bands) old)) same in
      let after = ap (sum_by (precinct_size_at (header_in c.args.coding.now weights) (rows_held bands) new)) same in
      record { balance = omega (arith, before, after); least = omega (arith, before) });
}

pub precinct_shift-own-requires-clause-coding : goal.precinct_shift-own-requires-clause-coding
precinct_shift-own-requires-clause-coding c = (
  c.args.slice,
  c.requires.coding.0,
  c.requires.coding.1,
  precinct_in c.args.coding.now.geometry.now c.args.slice c.precincts_in-first.result.0 c.precincts_in-first.result.1 c.precincts.precinct
      c.precincts_in-first.ensures.first c.precincts_in-first.ensures.end c.precincts.invariant.from c.precincts-test.true,
)

pub precincts-preserved : goal.precincts-preserved
precincts-preserved c = record {
  from = omega (arith, c.precincts.invariant.from);
  removed = omega (arith, c.precincts.invariant.from, c.precincts.invariant.removed, c.precinct_shift-own.ensures.few, c.both_shifts-shift.ensures.removed);
  added = omega (arith, c.precincts.invariant.from, c.precincts.invariant.added, c.precinct_shift-own.ensures.few, c.both_shifts-shift.ensures.added);
  left = λ bands weights old new step. (
      let there = precinct_in c.args.coding.now.geometry.now c.args.slice c.precincts_in-first.result.0 c.precincts_in-first.result.1 c.precincts.precinct c.precincts_in-first.ensures.first c.precincts_in-first.ensures.end c.precincts.invariant.from c.precincts-test.true in
      shift_more _ _ _ _ _ _ _ _ c.precincts.shift c.precinct_shift-own.result c.both_shifts-shift.result
      (sum_first (precinct_size_at (header_in c.args.coding.now weights) (rows_held bands) old) c.precincts.precinct c.precincts_in-first.result.1 c.precincts-test.true)
      (sum_first (precinct_size_at (header_in c.args.coding.now weights) (rows_held bands) new) c.precincts.precinct c.precincts_in-first.result.1 c.precincts-test.true)
      (c.precinct_shift-own.ensures.shift c.args.slice bands weights old new step there) c.both_shifts-shift.ensures.removed c.both_shifts-shift.ensures.added
      (c.precincts.invariant.left bands weights old new step));
}

pub returns-clause-shift : goal.returns-clause-shift
returns-clause-shift c bands weights old new step =
    let none = range_end c.precincts.precinct c.precincts_in-first.result.1 (omega (arith, c.precincts-test.false)) in
    shift_done _ _ _ _ c.precincts.shift (ap (sum_by (precinct_size_at (header_in c.args.coding.now weights) (rows_held bands) old)) none)
    (ap (sum_by (precinct_size_at (header_in c.args.coding.now weights) (rows_held bands) new)) none) (c.precincts.invariant.left bands weights old new step)
