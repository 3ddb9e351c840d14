use Rattle.std.proofs.Common.{◌-◌, ◌<◌, ◌≤◌, ◌++◌, length, ap, ◌∙◌, arith}
use Rattle.std.proofs.lemmas.List.{get_or_default}
use Rattle.std.specs.List.{range_with_len}
use Rattle.xs_lists.proofs.Bitwise.{join-are}
use Rattle.xs_lists.proofs.Packing.{length-packed}
use Rattle.xs_lists.proofs.Ranges.{bits_first}
use Rattle.xs_precinct_write.specs.Outgoing.{Outgoing, no_outgoing}
use Rattle.xs_precinct_write.specs.Parts.{band_part, bits_in_part, part_bits}
use Rattle.xs_precinct_write.proofs.Joined.{aligned_room, none_left, part_bits as part_put, size_first, whole_put}
use Rattle.xs_precinct_write.proofs.Sized.{part_are}
use Rattle.xs_precinct_write.proofs.write.packet.write_part.Goals as goal

pub write_part-requires-clause-room : goal.write_part-requires-clause-room
write_part-requires-clause-room c =
    let p = c.args.packet.now in
    let here : c.bands.band < length p.lines.now = omega (arith, c.bands-test.true, c.requires.lines.there) in
    let same = ap (λ (o : Outgoing). length (bits_in_part c.args.part p.apart o)) (get_or_default p.lines.now c.bands.band c.index-packet-band.result no_outgoing here) in
    let more = size_first (band_part p c.args.part) c.bands.band p.end c.bands-test.true in
    omega (arith, same, more, c.bands.invariant.spare, c.requires.room, length-packed (part_bits p c.args.part))

pub bands-preserved : goal.bands-preserved
bands-preserved c =
    let p = c.args.packet.now in
    let here : c.bands.band < length p.lines.now = omega (arith, c.bands-test.true, c.requires.lines.there) in
    let same = ap (bits_in_part c.args.part p.apart) (get_or_default p.lines.now c.bands.band c.index-packet-band.result no_outgoing here) in
    let more = size_first (band_part p c.args.part) c.bands.band p.end c.bands-test.true in
    record {
      whole = bits_first (band_part p c.args.part) c.bands.band p.end c.bands.out.bits c.write_part.new.out.bits (c.args.out.now.bits ++ part_bits p c.args.part) c.bands-test.true c.bands.invariant.whole
          (c.write_part.ensures.bits ∙ ap (λ l. c.bands.out.bits ++ l) same);
      spare = omega (arith, ap length same, more, c.bands.invariant.spare, c.write_part.ensures.spare);
    }

pub align-requires : goal.align-requires
align-requires c =
    let p = c.args.packet.now in
    let none = ap length (none_left (band_part p c.args.part) c.bands.band p.end (omega (arith, c.bands-test.false))) in
    let room : 7 ≤ c.bands.out.spare = omega (arith, none, c.bands.invariant.spare, c.requires.room, length-packed (part_bits p c.args.part)) in
    record { room = room }

pub returns-clause-bits : goal.returns-clause-bits
returns-clause-bits c =
    let p = c.args.packet.now in
    let none = none_left (band_part p c.args.part) c.bands.band p.end (omega (arith, c.bands-test.false)) in
    let all = whole_put (c.args.out.now.bits ++ part_bits p c.args.part) c.bands.out.bits _ c.bands.invariant.whole none in
    part_put c.args.out.now.bits (part_bits p c.args.part) c.bands.out.bits c.align.new.self.bits c.requires.border
    (join-are (band_part p c.args.part) (λ band. part_are c.args.part p.apart _) (range_with_len p.first (p.end - p.first))) all c.align.ensures.bits

pub returns-clause-spare : goal.returns-clause-spare
returns-clause-spare c =
    let p = c.args.packet.now in
    let none = none_left (band_part p c.args.part) c.bands.band p.end (omega (arith, c.bands-test.false)) in
    let all = whole_put (c.args.out.now.bits ++ part_bits p c.args.part) c.bands.out.bits _ c.bands.invariant.whole none in
    omega (arith, ap length none, c.bands.invariant.spare, c.align.ensures.spare, aligned_room c.args.out.now.bits (part_bits p c.args.part) c.bands.out.bits c.requires.border all)
