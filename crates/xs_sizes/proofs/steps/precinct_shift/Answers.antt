use Rattle.std.proofs.Common.{◌+◌, ◌*◌, ◌/◌, ◌<◌, ◌≤◌, length, ap, arith}
use Rattle.std.specs.List.{sum_by}
use Rattle.std.proofs.lemmas.List.{drop_all}
use Rattle.xs_params.specs.Geometry.{bands_of, packets_of}
use Rattle.xs_geometry.specs.Places.{no_place, packet_at}
use Rattle.xs_geometry.specs.SliceLines.{rows_held}
use Rattle.xs_sizes.specs.Measured.{header_in, packet_size_at}
use Rattle.xs_sizes.proofs.PacketSizes.{few_packets}
use Rattle.xs_sizes.proofs.Measuring.{kept_there, kept_seen, packet_there, sum_rest}
use Rattle.xs_sizes.proofs.Stepping.{shift_more, shift_done, shift_behind}
use Rattle.xs_sizes.proofs.steps.precinct_shift.Goals as goal

pub kept_of-kept-requires-clause-from : goal.kept_of-kept-requires-clause-from
kept_of-kept-requires-clause-from c = (kept_there c.requires.coding.0 c.requires.coding.1 c.args.precinct c.args.coding.now c.requires.coding.2 c.requires.coding.3).0

pub kept_of-kept-requires-clause-there : goal.kept_of-kept-requires-clause-there
kept_of-kept-requires-clause-there c = (kept_there c.requires.coding.0 c.requires.coding.1 c.args.precinct c.args.coding.now c.requires.coding.2 c.requires.coding.3).1

pub packet_shift-own-requires-clause-packet : goal.packet_shift-own-requires-clause-packet
packet_shift-own-requires-clause-packet c =
    let g = c.args.coding.now.geometry.now in
    let at = c.requires.coding in
    let kept = kept_seen at.0 at.1 c.args.precinct c.args.coding.now c.kept_of-kept.result.now c.kept_of-kept.ensures at.2 at.3 in
    let inside : c.packets.number < length c.kept_of-kept.result.now.packets.items = omega (arith, c.packets-test.true, c.len-number-end.ensures) in
    (at.0, at.1, c.args.precinct, packet_at g c.args.precinct c.packets.number, packet_there at.0 at.1 c.args.precinct c.packets.number c.args.coding.now c.kept_of-kept.result.now c.index.result.now _ c.bands-bands.ensures.ranges at.2 at.3 kept inside c.index.ensures)

pub packet_shift-own-requires-clause-few : goal.packet_shift-own-requires-clause-few
packet_shift-own-requires-clause-few c =
    let g = c.args.coding.now.geometry.now in
    let at = c.requires.coding in
    let kept = kept_seen at.0 at.1 c.args.precinct c.args.coding.now c.kept_of-kept.result.now c.kept_of-kept.ensures at.2 at.3 in
    let inside : c.packets.number < length c.kept_of-kept.result.now.packets.items = omega (arith, c.packets-test.true, c.len-number-end.ensures) in
    let is = packet_there at.0 at.1 c.args.precinct c.packets.number c.args.coding.now c.kept_of-kept.result.now c.index.result.now _ c.bands-bands.ensures.ranges at.2 at.3 kept inside c.index.ensures in
    omega (arith, is.at.there, c.bands-bands.ensures.few, c.bands-bands.ensures.count)

pub packets-preserved : goal.packets-preserved
packets-preserved c = record {
  removed = omega (arith, c.packets.invariant.removed, c.packet_shift-own.ensures.few, c.both_shifts-shift.ensures.removed);
  added = omega (arith, c.packets.invariant.added, c.packet_shift-own.ensures.few, c.both_shifts-shift.ensures.added);
  left = λ slice bands weights old new step there. (
      let g = c.args.coding.now.geometry.now in
      let h = header_in c.args.coding.now weights in
      let rows = rows_held bands in
      let kept = kept_seen slice bands c.args.precinct c.args.coding.now c.kept_of-kept.result.now c.kept_of-kept.ensures step.before.coded there in
      let inside : c.packets.number < length c.kept_of-kept.result.now.packets.items = omega (arith, c.packets-test.true, c.len-number-end.ensures) in
      let is = packet_there slice bands c.args.precinct c.packets.number c.args.coding.now c.kept_of-kept.result.now c.index.result.now _ c.bands-bands.ensures.ranges step.before.coded there kept inside c.index.ensures in
      let place : c.packets.number < length (packets_of g c.args.precinct) = omega (arith, inside, kept.packets.count) in
      shift_more _ _ _ _ _ _ _ _ c.packets.shift c.packet_shift-own.result c.both_shifts-shift.result
      (sum_rest (packet_size_at h rows old c.args.precinct) (packets_of g c.args.precinct) c.packets.number no_place place)
      (sum_rest (packet_size_at h rows new c.args.precinct) (packets_of g c.args.precinct) c.packets.number no_place place)
      (c.packet_shift-own.ensures.shift slice bands weights old new c.args.precinct (packet_at g c.args.precinct c.packets.number) step is) c.both_shifts-shift.ensures.removed c.both_shifts-shift.ensures.added
      (c.packets.invariant.left slice bands weights old new step there));
}

pub returns-clause-shift : goal.returns-clause-shift
returns-clause-shift c slice bands weights old new step there =
    let g = c.args.coding.now.geometry.now in
    let h = header_in c.args.coding.now weights in
    let kept = kept_seen slice bands c.args.precinct c.args.coding.now c.kept_of-kept.result.now c.kept_of-kept.ensures step.before.coded there in
    let past : length (packets_of g c.args.precinct) ≤ c.packets.number = omega (arith, c.packets-test.false, c.len-number-end.ensures, kept.packets.count) in
    let none = drop_all c.packets.number (packets_of g c.args.precinct) past in
    shift_behind ((40 + 2 * bands_of g + 7) / 8) _ _ c.packets.shift
    (shift_done _ _ _ _ c.packets.shift (ap (sum_by (packet_size_at h (rows_held bands) old c.args.precinct)) none) (ap (sum_by (packet_size_at h (rows_held bands) new c.args.precinct)) none)
    (c.packets.invariant.left slice bands weights old new step there))

pub returns-clause-few : goal.returns-clause-few
returns-clause-few c =
    let g = c.args.coding.now.geometry.now in
    let at = c.requires.coding in
    let kept = kept_seen at.0 at.1 c.args.precinct c.args.coding.now c.kept_of-kept.result.now c.kept_of-kept.ensures at.2 at.3 in
    let few = few_packets g c.args.precinct c.bands-bands.ensures.ranges in
    (omega (arith, c.packets.auto.number-end, c.len-number-end.ensures, kept.packets.count, few, c.packets.invariant.removed), omega (arith, c.packets.auto.number-end, c.len-number-end.ensures, kept.packets.count, few, c.packets.invariant.added))

pub both_shifts-shift-requires-clause-removed : goal.both_shifts-shift-requires-clause-removed
both_shifts-shift-requires-clause-removed c =
    let g = c.args.coding.now.geometry.now in
    let at = c.requires.coding in
    let kept = kept_seen at.0 at.1 c.args.precinct c.args.coding.now c.kept_of-kept.result.now c.kept_of-kept.ensures at.2 at.3 in
    omega (arith, c.packets-test.true, c.len-number-end.ensures, kept.packets.count, few_packets g c.args.precinct c.bands-bands.ensures.ranges, c.packets.invariant.removed, c.packet_shift-own.ensures.few)

pub both_shifts-shift-requires-clause-added : goal.both_shifts-shift-requires-clause-added
both_shifts-shift-requires-clause-added c =
    let g = c.args.coding.now.geometry.now in
    let at = c.requires.coding in
    let kept = kept_seen at.0 at.1 c.args.precinct c.args.coding.now c.kept_of-kept.result.now c.kept_of-kept.ensures at.2 at.3 in
    omega (arith, c.packets-test.true, c.len-number-end.ensures, kept.packets.count, few_packets g c.args.precinct c.bands-bands.ensures.ranges, c.packets.invariant.added, c.packet_shift-own.ensures.few)
