use Rattle.std.proofs.Common.{◌+◌, ◌<◌, ◌≤◌, length, drop, sym, ap, ◌∙◌, arith}
use Rattle.std.specs.Prelude.{◌&&◌}
use Rattle.std.specs.List.{list_all, sum_by}
use Rattle.std.proofs.lemmas.List.{drop_all}
use Rattle.xs_params.specs.Geometry.{packets_of}
use Rattle.xs_geometry.specs.Places.{no_place, packet_at}
use Rattle.xs_geometry.specs.SliceLines.{rows_held}
use Rattle.xs_sizes.specs.Measured.{header_in, packet_fits_at, packet_size_at}
use Rattle.xs_sizes.proofs.PacketSizes.{few_packets}
use Rattle.xs_sizes.proofs.Measuring.{kept_there, kept_seen, packet_there, sum_rest, all_rest, all_more, and_true}
use Rattle.xs_sizes.proofs.measure.packets_size.Goals as goal

pub kept_of-kept-requires-clause-from : goal.kept_of-kept-requires-clause-from
kept_of-kept-requires-clause-from c = (kept_there c.requires.coding.0 c.requires.coding.1 c.args.precinct c.args.coding.now c.requires.coding.2 c.requires.coding.3).0

pub kept_of-kept-requires-clause-there : goal.kept_of-kept-requires-clause-there
kept_of-kept-requires-clause-there c = (kept_there c.requires.coding.0 c.requires.coding.1 c.args.precinct c.args.coding.now c.requires.coding.2 c.requires.coding.3).1

pub packet_size-packet-requires-clause-packet : goal.packet_size-packet-requires-clause-packet
packet_size-packet-requires-clause-packet c =
    let g = c.args.coding.now.geometry.now in
    let at = c.requires.coding in
    let kept = kept_seen at.0 at.1 c.args.precinct c.args.coding.now c.kept_of-kept.result.now c.kept_of-kept.ensures at.2 at.3 in
    let inside : c.packets.number < length c.kept_of-kept.result.now.packets.items = omega (arith, c.packets-test.true, c.len-number-end.ensures) in
    (at.0, at.1, c.args.precinct, packet_at g c.args.precinct c.packets.number, packet_there at.0 at.1 c.args.precinct c.packets.number c.args.coding.now c.kept_of-kept.result.now c.index.result.now _ c.bands-bands.ensures.ranges at.2 at.3 kept inside c.index.ensures)

pub packet_size-packet-requires-clause-few : goal.packet_size-packet-requires-clause-few
packet_size-packet-requires-clause-few c =
    let g = c.args.coding.now.geometry.now in
    let at = c.requires.coding in
    let kept = kept_seen at.0 at.1 c.args.precinct c.args.coding.now c.kept_of-kept.result.now c.kept_of-kept.ensures at.2 at.3 in
    let inside : c.packets.number < length c.kept_of-kept.result.now.packets.items = omega (arith, c.packets-test.true, c.len-number-end.ensures) in
    let is = packet_there at.0 at.1 c.args.precinct c.packets.number c.args.coding.now c.kept_of-kept.result.now c.index.result.now _ c.bands-bands.ensures.ranges at.2 at.3 kept inside c.index.ensures in
    omega (arith, is.at.there, c.bands-bands.ensures.few, c.bands-bands.ensures.count)

pub overflow_add-bytes : goal.overflow_add-bytes
overflow_add-bytes c =
    let g = c.args.coding.now.geometry.now in
    let at = c.requires.coding in
    let kept = kept_seen at.0 at.1 c.args.precinct c.args.coding.now c.kept_of-kept.result.now c.kept_of-kept.ensures at.2 at.3 in
    omega (arith, c.packets-test.true, c.len-number-end.ensures, kept.packets.count, few_packets g c.args.precinct c.bands-bands.ensures.ranges, c.packets.invariant.few, c.packet_size-packet.ensures.few)

pub packets-preserved : goal.packets-preserved
packets-preserved c = record {
  few = omega (arith, c.packets.invariant.few, c.packet_size-packet.ensures.few);
  sizes = λ slice bands weights candidate coded there. (
      let g = c.args.coding.now.geometry.now in
      let h = header_in c.args.coding.now weights in
      let rows = rows_held bands in
      let kept = kept_seen slice bands c.args.precinct c.args.coding.now c.kept_of-kept.result.now c.kept_of-kept.ensures coded.coded there in
      let inside : c.packets.number < length c.kept_of-kept.result.now.packets.items = omega (arith, c.packets-test.true, c.len-number-end.ensures) in
      let is = packet_there slice bands c.args.precinct c.packets.number c.args.coding.now c.kept_of-kept.result.now c.index.result.now _ c.bands-bands.ensures.ranges coded.coded there kept inside c.index.ensures in
      let own = c.packet_size-packet.ensures.bytes slice bands weights candidate c.args.precinct (packet_at g c.args.precinct c.packets.number) coded is in
      let rest = sum_rest (packet_size_at h rows candidate c.args.precinct) (packets_of g c.args.precinct) c.packets.number no_place (omega (arith, inside, kept.packets.count)) in
      omega (arith, own, rest, c.packets.invariant.sizes slice bands weights candidate coded there));
  fits = λ slice bands weights candidate coded there. (
      let g = c.args.coding.now.geometry.now in
      let h = header_in c.args.coding.now weights in
      let rows = rows_held bands in
      let kept = kept_seen slice bands c.args.precinct c.args.coding.now c.kept_of-kept.result.now c.kept_of-kept.ensures coded.coded there in
      let inside : c.packets.number < length c.kept_of-kept.result.now.packets.items = omega (arith, c.packets-test.true, c.len-number-end.ensures) in
      let is = packet_there slice bands c.args.precinct c.packets.number c.args.coding.now c.kept_of-kept.result.now c.index.result.now _ c.bands-bands.ensures.ranges coded.coded there kept inside c.index.ensures in
      let own = c.packet_size-packet.ensures.fits slice bands weights candidate c.args.precinct (packet_at g c.args.precinct c.packets.number) coded is in
      all_more c.packets.fits_fields c.packet_size-packet.result.fits_fields c.both-fits_fields.result
      (list_all (packet_fits_at h rows candidate c.args.precinct) (drop (c.packets.number + 1) (packets_of g c.args.precinct))) _ _ (packet_fits_at h rows candidate c.args.precinct (packet_at g c.args.precinct c.packets.number))
      c.both-fits_fields.ensures own (all_rest (packet_fits_at h rows candidate c.args.precinct) (packets_of g c.args.precinct) c.packets.number no_place (omega (arith, inside, kept.packets.count)))
      (c.packets.invariant.fits slice bands weights candidate coded there));
}

pub returns-clause-bytes : goal.returns-clause-bytes
returns-clause-bytes c slice bands weights candidate coded there =
    let g = c.args.coding.now.geometry.now in
    let kept = kept_seen slice bands c.args.precinct c.args.coding.now c.kept_of-kept.result.now c.kept_of-kept.ensures coded.coded there in
    let past : length (packets_of g c.args.precinct) ≤ c.packets.number = omega (arith, c.packets-test.false, c.len-number-end.ensures, kept.packets.count) in
    let none = ap (sum_by (packet_size_at (header_in c.args.coding.now weights) (rows_held bands) candidate c.args.precinct)) (drop_all c.packets.number (packets_of g c.args.precinct) past) in
    omega (arith, none, c.packets.invariant.sizes slice bands weights candidate coded there)

pub returns-clause-fits : goal.returns-clause-fits
returns-clause-fits c slice bands weights candidate coded there =
    let g = c.args.coding.now.geometry.now in
    let kept = kept_seen slice bands c.args.precinct c.args.coding.now c.kept_of-kept.result.now c.kept_of-kept.ensures coded.coded there in
    let past : length (packets_of g c.args.precinct) ≤ c.packets.number = omega (arith, c.packets-test.false, c.len-number-end.ensures, kept.packets.count) in
    let none = ap (list_all (packet_fits_at (header_in c.args.coding.now weights) (rows_held bands) candidate c.args.precinct)) (drop_all c.packets.number (packets_of g c.args.precinct) past) in
    sym (and_true c.packets.fits_fields) ∙ ap (λ b. c.packets.fits_fields && b) (sym none) ∙ c.packets.invariant.fits slice bands weights candidate coded there

pub returns-clause-few : goal.returns-clause-few
returns-clause-few c =
    let g = c.args.coding.now.geometry.now in
    let at = c.requires.coding in
    let kept = kept_seen at.0 at.1 c.args.precinct c.args.coding.now c.kept_of-kept.result.now c.kept_of-kept.ensures at.2 at.3 in
    omega (arith, c.packets.auto.number-end, c.len-number-end.ensures, kept.packets.count, few_packets g c.args.precinct c.bands-bands.ensures.ranges, c.packets.invariant.few)
