use Rattle.std.proofs.Common.{◌<◌, length, ap, arith}
use Rattle.std.proofs.lemmas.List.{get_or_default}
use Rattle.xs_lists.proofs.Packing.{length-packed}
use Rattle.xs_precinct_write.specs.Outgoing.{Outgoing, no_outgoing}
use Rattle.xs_precinct_write.specs.Parts.{band_part, bits_in_part, part_bits}
use Rattle.xs_precinct_write.proofs.Joined.{size_first, none_left}
use Rattle.xs_precinct_write.proofs.write.packet.part_bytes.Goals as goal

pub bands-preserved : goal.bands-preserved
bands-preserved c =
    let p = c.args.packet.now in
    let here : c.bands.band < length p.lines.now = omega (arith, c.bands-test.true, c.requires.lines.there) in
    let same = ap (λ (o : Outgoing). length (bits_in_part c.args.part p.apart o)) (get_or_default p.lines.now c.bands.band c.index-packet-band.result no_outgoing here) in
    let more = size_first (band_part p c.args.part) c.bands.band p.end c.bands-test.true in
    record {
      few = omega (arith, c.bands.invariant.few, c.part_size-bits.ensures.few, c.bands.auto.band);
      left = omega (arith, c.bands.invariant.left, more, same, c.part_size-bits.ensures.size);
    }

pub overflow_cast-result : goal.overflow_cast-result
overflow_cast-result c =
    let p = c.args.packet.now in
    let none = ap length (none_left (band_part p c.args.part) c.bands.band p.end (omega (arith, c.bands-test.false))) in
    omega (arith, none, c.bands.invariant.left, c.requires.lines.short c.args.part, length-packed (part_bits p c.args.part))

pub returns-clause-size : goal.returns-clause-size
returns-clause-size c =
    let p = c.args.packet.now in
    let none = ap length (none_left (band_part p c.args.part) c.bands.band p.end (omega (arith, c.bands-test.false))) in
    omega (arith, none, c.bands.invariant.left, length-packed (part_bits p c.args.part))

pub returns-clause-few : goal.returns-clause-few
returns-clause-few c =
    let p = c.args.packet.now in
    let none = ap length (none_left (band_part p c.args.part) c.bands.band p.end (omega (arith, c.bands-test.false))) in
    omega (arith, none, c.bands.invariant.left, c.requires.lines.short c.args.part, length-packed (part_bits p c.args.part))
