use Rattle.std.proofs.Common.{◌*◌, ◌<◌, [], length, arith}
use Rattle.xs_sizes.proofs.Coded.{summed_start, summed_more, summed_all, summed_kept}
use Rattle.xs_sizes.proofs.lengths.count_sizes.Goals as goal

pub groups-init : goal.groups-init
groups-init c = record { plain = summed_start [] c.args.planes.now; predicted = summed_start c.args.above.now c.args.planes.now }

pub added-plain-requires-clause-room : goal.added-plain-requires-clause-room
added-plain-requires-clause-room c t le = omega (arith, c.groups.invariant.plain.few t le, c.group_bits-bits.ensures.plain.few t le, c.groups-test.true, c.requires.few)

pub added-plain-requires-clause-room_kept : goal.added-plain-requires-clause-room_kept
added-plain-requires-clause-room_kept c t le = omega (arith, c.groups.invariant.plain.few_kept t le, c.group_bits-bits.ensures.plain.few t le, c.groups-test.true, c.requires.few)

pub added-predicted-requires-clause-room : goal.added-predicted-requires-clause-room
added-predicted-requires-clause-room c t le = omega (arith, c.groups.invariant.predicted.few t le, c.group_bits-bits.ensures.predicted.few t le, c.groups-test.true, c.requires.few)

pub added-predicted-requires-clause-room_kept : goal.added-predicted-requires-clause-room_kept
added-predicted-requires-clause-room_kept c t le = omega (arith, c.groups.invariant.predicted.few_kept t le, c.group_bits-bits.ensures.predicted.few t le, c.groups-test.true, c.requires.few)

pub groups-preserved : goal.groups-preserved
groups-preserved c =
    let s = c.groups.significance in
    let planes = c.args.planes.now in
    let bits = c.group_bits-bits in
    let inside : 8 * s < length planes = omega (arith, c.groups-test.true) in
    record {
      plain = summed_more [] planes s bits.result.count c.groups.plain.all c.groups.plain.kept bits.result.plain c.added-plain.result.all c.added-plain.result.kept inside bits.ensures.count bits.ensures.plain
          c.added-plain.ensures.all c.added-plain.ensures.kept c.groups.invariant.plain;
      predicted = summed_more c.args.above.now planes s bits.result.count c.groups.predicted.all c.groups.predicted.kept bits.result.predicted c.added-predicted.result.all c.added-predicted.result.kept inside bits.ensures.count bits.ensures.predicted
          c.added-predicted.ensures.all c.added-predicted.ensures.kept c.groups.invariant.predicted;
    }

pub returns-clause-plain : goal.returns-clause-plain
returns-clause-plain c = summed_all [] c.args.planes.now c.groups.significance c.groups.plain.all c.groups.plain.kept (omega (arith, c.groups-test.false)) c.groups.invariant.plain

pub returns-clause-plain_kept : goal.returns-clause-plain_kept
returns-clause-plain_kept c = summed_kept [] c.args.planes.now c.groups.significance c.groups.plain.all c.groups.plain.kept (omega (arith, c.groups-test.false)) c.groups.invariant.plain

pub returns-clause-predicted : goal.returns-clause-predicted
returns-clause-predicted c = summed_all c.args.above.now c.args.planes.now c.groups.significance c.groups.predicted.all c.groups.predicted.kept (omega (arith, c.groups-test.false)) c.groups.invariant.predicted

pub returns-clause-predicted_kept : goal.returns-clause-predicted_kept
returns-clause-predicted_kept c = summed_kept c.args.above.now c.args.planes.now c.groups.significance c.groups.predicted.all c.groups.predicted.kept (omega (arith, c.groups-test.false)) c.groups.invariant.predicted
