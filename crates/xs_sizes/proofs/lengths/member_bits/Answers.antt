use Rattle.std.proofs.Common.{◌≡◌, ℕ, ◌+◌, ◌*◌, ◌<◌, ◌≤◌, [], length, slice_index_or, sym, ap, ◌∙◌, arith}
use Rattle.xs_sizes.specs.Lengths.{length_of}
use Rattle.xs_sizes.proofs.Coded.{so_far_start, so_far_more, so_far_done, length_few}
use Rattle.xs_sizes.proofs.lengths.member_bits.Goals as goal

pub groups-init : goal.groups-init
groups-init c = record {
  from = omega arith;
  count = omega (arith, c.requires.few);
  plain = so_far_start [] c.args.planes.now c.args.at.0 c.args.at.1;
  predicted = so_far_start c.args.above.now c.args.planes.now c.args.at.0 c.args.at.1;
}

pub with_rows-bits-requires-clause-plain : goal.with_rows-bits-requires-clause-plain
with_rows-bits-requires-clause-plain c t le =
    let own = slice_index_or c.args.planes.now c.groups.group 0 in
    let inside : c.groups.group < length c.args.planes.now = omega (arith, c.groups-test.true, c.requires.there) in
    let none : 16 * 0 + own ≡ own = omega arith in
    let low = c.requires.planes c.groups.group 0 inside in
    let is : slice_index_or (slice_index_or c.args.table.now own []) t 0 ≡ length_of 0 own t = ap (λ k. slice_index_or (slice_index_or c.args.table.now k []) t 0) (sym none) ∙ c.requires.table.rows 0 own t (omega arith) low le in
    omega (arith, is, length_few 0 own t (omega arith) low le, c.groups.invariant.plain.few t le, c.groups.invariant.from, c.groups-test.true, c.requires.few)

pub with_rows-bits-requires-clause-predicted : goal.with_rows-bits-requires-clause-predicted
with_rows-bits-requires-clause-predicted c t le =
    let own = slice_index_or c.args.planes.now c.groups.group 0 in
    let above = slice_index_or c.args.above.now c.groups.group 0 in
    let inside : c.groups.group < length c.args.planes.now = omega (arith, c.groups-test.true, c.requires.there) in
    let high = c.requires.above c.groups.group 0 (omega (arith, inside, c.requires.size)) in
    let low = c.requires.planes c.groups.group 0 inside in
    let is = c.requires.table.rows above own t high low le in
    omega (arith, is, length_few above own t high low le, c.groups.invariant.predicted.few t le, c.groups.invariant.from, c.groups-test.true, c.requires.few)

pub groups-preserved : goal.groups-preserved
groups-preserved c =
    let group = c.groups.group in
    let above = c.args.above.now in
    let planes = c.args.planes.now in
    let table = c.args.table.now in
    let own = slice_index_or planes group 0 in
    let inside : group < length planes = omega (arith, c.groups-test.true, c.requires.there) in
    let high = c.requires.above group 0 (omega (arith, inside, c.requires.size)) in
    let low = c.requires.planes group 0 inside in
    let none : 16 * 0 + own ≡ own = omega arith in
    let plain : (t : ℕ) → t ≤ 15 → slice_index_or (slice_index_or table own []) t 0 ≡ length_of 0 own t = λ t le. ap (λ k. slice_index_or (slice_index_or table k []) t 0) (sym none) ∙ c.requires.table.rows 0 own t (omega arith) low le in
    record {
      from = omega (arith, c.groups.invariant.from);
      count = c.with_rows-bits.ensures.count ∙ c.groups.invariant.count;
      plain = so_far_more [] planes c.args.at.0 group c.args.at.1 c.groups.bits.plain (slice_index_or table own []) c.with_rows-bits.result.plain c.groups.invariant.from c.groups-test.true (omega arith) low plain c.with_rows-bits.ensures.plain c.groups.invariant.plain;
      predicted = so_far_more above planes c.args.at.0 group c.args.at.1 c.groups.bits.predicted (slice_index_or table (16 * slice_index_or above group 0 + own) []) c.with_rows-bits.result.predicted c.groups.invariant.from c.groups-test.true high low
          (λ t le. c.requires.table.rows (slice_index_or above group 0) own t high low le) c.with_rows-bits.ensures.predicted c.groups.invariant.predicted;
    }

pub returns-clause-plain : goal.returns-clause-plain
returns-clause-plain c = so_far_done [] c.args.planes.now c.args.at.0 c.groups.group c.args.at.1 c.groups.bits.plain c.requires.order c.requires.few (omega (arith, c.groups-test.false, c.groups.auto.group-end, c.requires.order)) c.groups.invariant.plain

pub returns-clause-predicted : goal.returns-clause-predicted
returns-clause-predicted c = so_far_done c.args.above.now c.args.planes.now c.args.at.0 c.groups.group c.args.at.1 c.groups.bits.predicted c.requires.order c.requires.few (omega (arith, c.groups-test.false, c.groups.auto.group-end, c.requires.order)) c.groups.invariant.predicted

pub returns-clause-count : goal.returns-clause-count
returns-clause-count c = c.groups.invariant.count
