use Rattle.std.proofs.Common.{ℕ, ◌<◌, ◌++◌, List, length, sym, ap, subst, ◌∙◌, arith}
use Rattle.std.specs.List.{flat_map}
use Rattle.xs_lists.specs.Bits.{bits_of_bytes}
use Rattle.xs_layout.specs.Geometry.{PacketPlace}
use Rattle.xs_params.specs.declared.header.Header.{Header}
use Rattle.xs_params.specs.Geometry.{packets_of, precinct_count}
use Rattle.xs_geometry.specs.Places.{no_place}
use Rattle.xs_grammar.specs.Coded.{packet_bytes}
use Rattle.xs_precinct_write.specs.Sent.{content_in, modes_in}
use Rattle.xs_precinct_write.proofs.Alikes.{alike_then, modes_kept, room_kept}
use Rattle.xs_precinct_write.proofs.Joined.{rest_more, rest_none, whole_put}
use Rattle.xs_precinct_write.proofs.Precincts.{bits_of_each, precinct_there}
use Rattle.xs_precinct_write.proofs.write.precinct.write_packets.Goals as goal

pub packets-number-end-requires : goal.packets-number-end-requires
packets-number-end-requires c =
    let known = c.requires.precinct in
    subst (λ (g : Header). c.args.precinct < precinct_count g) (sym known.is_slice.geometry) (precinct_there c.args.at.now.header.now known.slice c.args.precinct known.there)

pub send_packet-requires-clause-number : goal.send_packet-requires-clause-number
send_packet-requires-clause-number c =
    let count = c.packets-number-end.ensures.count ∙ ap (λ (g : Header). length (packets_of g c.args.precinct)) c.requires.precinct.is_slice.geometry in
    omega (arith, c.packets-test.true, count)

pub send_packet-requires-clause-room : goal.send_packet-requires-clause-room
send_packet-requires-clause-room c = room_kept c.args.at.now.header.now c.args.lines.now c.packets.lines c.requires.room c.packets.invariant.alike

pub send_packet-requires-clause-modes : goal.send_packet-requires-clause-modes
send_packet-requires-clause-modes c = modes_kept c.args.at.now.header.now (modes_in c.args.at.now c.args.precinct) c.args.lines.now c.packets.lines c.requires.modes c.packets.invariant.alike

pub send_packet-requires-clause-fits : goal.send_packet-requires-clause-fits
send_packet-requires-clause-fits c =
    let count = c.packets-number-end.ensures.count ∙ ap (λ (g : Header). length (packets_of g c.args.precinct)) c.requires.precinct.is_slice.geometry in
    c.requires.fits c.packets.number (omega (arith, c.packets-test.true, count))

pub returns-in_err-send_packet-clause-alike : goal.returns-in_err-send_packet-clause-alike
returns-in_err-send_packet-clause-alike c = alike_then c.args.lines.now c.packets.lines c.send_packet.new.lines c.packets.invariant.alike c.send_packet.ensures.alike

pub packets-preserved : goal.packets-preserved
packets-preserved c =
    let s = c.args.at.now in
    let h = s.header.now in
    let packets = packets_of h c.args.precinct in
    let count = c.packets-number-end.ensures.count ∙ ap (λ (g : Header). length (packets_of g c.args.precinct)) c.requires.precinct.is_slice.geometry in
    let inside : c.packets.number < length packets = omega (arith, c.packets-test.true, count) in
    let piece : PacketPlace → List ℕ = λ place. bits_of_bytes (packet_bytes h (content_in s) (modes_in s c.args.precinct) place) in
    record {
      whole = rest_more piece packets c.packets.number no_place (c.args.out.now.bits ++ flat_map piece packets) c.packets.out.bits c.send_packet.new.out.bits inside c.packets.invariant.whole c.in_ok-send_packet.ensures.bits;
      border = c.in_ok-send_packet.ensures.border;
      alike = alike_then c.args.lines.now c.packets.lines c.send_packet.new.lines c.packets.invariant.alike c.in_ok-send_packet.ensures.alike;
    }

pub returns-clause-bits : goal.returns-clause-bits
returns-clause-bits c =
    let s = c.args.at.now in
    let h = s.header.now in
    let packets = packets_of h c.args.precinct in
    let count = c.packets-number-end.ensures.count ∙ ap (λ (g : Header). length (packets_of g c.args.precinct)) c.requires.precinct.is_slice.geometry in
    let piece : PacketPlace → List ℕ = λ place. bits_of_bytes (packet_bytes h (content_in s) (modes_in s c.args.precinct) place) in
    whole_put (c.args.out.now.bits ++ flat_map piece packets) c.packets.out.bits _ c.packets.invariant.whole (rest_none piece packets c.packets.number (omega (arith, c.packets-test.false, count)))
    ∙ ap (λ l. c.args.out.now.bits ++ l) (bits_of_each (packet_bytes h (content_in s) (modes_in s c.args.precinct)) packets)
