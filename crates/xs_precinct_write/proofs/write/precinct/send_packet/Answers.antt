use Rattle.std.proofs.Common.{◌≡◌, ◌-◌, ◌<◌, ◌≤◌, ◌++◌, length, refl, sym, ap, subst, ◌∙◌, arith}
use Rattle.std.specs.List.{range_with_len, Contains}
use Rattle.std.proofs.lemmas.List.Elements.{Contains-get_or}
use Rattle.xs_lists.specs.Bits.{bits_of_bytes}
use Rattle.xs_layout.specs.Geometry.{PacketPlace}
use Rattle.xs_params.specs.declared.header.Header.{Header}
use Rattle.xs_params.specs.Geometry.{bands_of, packet_bands, packets_of, precinct_count}
use Rattle.xs_geometry.specs.Places.{no_place, packet_at, place_of}
use Rattle.xs_geometry.specs.SliceLines.{HasLine, rows_held}
use Rattle.xs_geometry.proofs.PacketLines.{slice_has_packets}
use Rattle.xs_geometry.proofs.PlaceFacts.{in_range}
use Rattle.xs_rate.proofs.Bodies.{bodies_fit}
use Rattle.xs_precinct_write.specs.declared.write.packet.PacketLines.{PacketLines}
use Rattle.xs_precinct_write.specs.Sent.{content_in, modes_in}
use Rattle.xs_precinct_write.proofs.Packets.{packet_fits_out, packet_given, packet_known, packet_lines}
use Rattle.xs_precinct_write.proofs.Precincts.{precinct_there}
use Rattle.xs_precinct_write.proofs.write.precinct.send_packet.Goals as goal

pub packet-packet-requires-clause-precinct : goal.packet-packet-requires-clause-precinct
packet-packet-requires-clause-precinct c =
    let known = c.requires.precinct in
    subst (λ (g : Header). c.args.place.0 < precinct_count g) (sym known.is_slice.geometry) (precinct_there c.args.at.now.header.now known.slice c.args.place.0 known.there)

pub packet-packet-requires-clause-number : goal.packet-packet-requires-clause-number
packet-packet-requires-clause-number c = subst (λ (g : Header). c.args.place.1 < length (packets_of g c.args.place.0)) (sym c.requires.precinct.is_slice.geometry) c.requires.number

pub load_lines-requires-clause-there : goal.load_lines-requires-clause-there
load_lines-requires-clause-there c = λ band from to.
    (let s = c.args.at.now in
    let h = s.header.now in
    let known = c.requires.precinct in
    let at = c.packet-packet.ensures.place ∙ ap (λ (g : Header). packet_at g c.args.place.0 c.args.place.1) known.is_slice.geometry in
    let first = c.packet_bands-first.result.0 in
    let end = c.packet_bands-first.result.1 in
    let listed : packet_bands h (packet_at h c.args.place.0 c.args.place.1) ≡ range_with_len first (end - first) =
    ap (packet_bands h) (sym at) ∙ ap (λ (g : Header). packet_bands g (place_of c.packet-packet.result)) (sym known.is_slice.geometry) ∙ c.packet_bands-first.ensures.bands in
    let has = subst (λ l. Contains l band) (sym listed) (in_range first (end - first) band from (omega (arith, from, to))) in
    subst (HasLine s.rows.now band) (sym (ap (λ (x : PacketPlace). x.line) at))
    (slice_has_packets h known.slice s.rows.now c.args.place.0 c.args.place.1 band known.is_slice.accepted.geometry known.is_slice.lines known.there c.requires.number has))

pub write_packet-requires-clause-lines : goal.write_packet-requires-clause-lines
write_packet-requires-clause-lines c =
    let s = c.args.at.now in
    let h = s.header.now in
    let known = c.requires.precinct in
    let at = c.packet-packet.ensures.place ∙ ap (λ (g : Header). packet_at g c.args.place.0 c.args.place.1) known.is_slice.geometry in
    let first = c.packet_bands-first.result.0 in
    let end = c.packet_bands-first.result.1 in
    let place = packet_at h c.args.place.0 c.args.place.1 in
    let mode = modes_in s c.args.place.0 in
    let listed : packet_bands h place ≡ range_with_len first (end - first) =
    ap (packet_bands h) (sym at) ∙ ap (λ (g : Header). packet_bands g (place_of c.packet-packet.result)) (sym known.is_slice.geometry) ∙ c.packet_bands-first.ensures.bands in
    let last : end ≤ bands_of h = omega (arith, c.packet_bands-first.ensures.there, ap bands_of known.is_slice.geometry) in
    let small = (bodies_fit h (rows_held s.rows.now) s.candidate (modes_in s) c.args.place.0 known.is_slice.accepted.geometry known.is_slice.heads known.is_slice.small).packet place
    (Contains-get_or (packets_of h c.args.place.0) c.args.place.1 no_place c.requires.number) in
    let there : end ≤ length c.load_lines.new.lines = omega (arith, last, c.requires.room.count, c.load_lines.ensures.alike.count) in
    packet_lines h (content_in s) mode place _ (packet_known h (content_in s) mode place c.packet-packet.result c.args.lines.now _ known.is_slice.heads refl listed at c.requires.modes last c.load_lines.ensures.sent) there small

pub write_packet-requires-clause-fits : goal.write_packet-requires-clause-fits
write_packet-requires-clause-fits c =
    let s = c.args.at.now in
    let h = s.header.now in
    let known = c.requires.precinct in
    let at = c.packet-packet.ensures.place ∙ ap (λ (g : Header). packet_at g c.args.place.0 c.args.place.1) known.is_slice.geometry in
    let first = c.packet_bands-first.result.0 in
    let end = c.packet_bands-first.result.1 in
    let place = packet_at h c.args.place.0 c.args.place.1 in
    let mode = modes_in s c.args.place.0 in
    let listed : packet_bands h place ≡ range_with_len first (end - first) =
    ap (packet_bands h) (sym at) ∙ ap (λ (g : Header). packet_bands g (place_of c.packet-packet.result)) (sym known.is_slice.geometry) ∙ c.packet_bands-first.ensures.bands in
    let p : PacketLines = record { lines = record { ref_ptr = (0, 0); now = c.load_lines.new.lines }; first = first; end = end; apart = h.signs_apart } in
    let last : end ≤ bands_of h = omega (arith, c.packet_bands-first.ensures.there, ap bands_of known.is_slice.geometry) in
    packet_fits_out h (content_in s) mode place p (packet_known h (content_in s) mode place c.packet-packet.result c.args.lines.now p known.is_slice.heads refl listed at c.requires.modes last c.load_lines.ensures.sent) c.requires.fits

pub returns-clause-bits : goal.returns-clause-bits
returns-clause-bits c =
    let s = c.args.at.now in
    let h = s.header.now in
    let known = c.requires.precinct in
    let at = c.packet-packet.ensures.place ∙ ap (λ (g : Header). packet_at g c.args.place.0 c.args.place.1) known.is_slice.geometry in
    let first = c.packet_bands-first.result.0 in
    let end = c.packet_bands-first.result.1 in
    let place = packet_at h c.args.place.0 c.args.place.1 in
    let mode = modes_in s c.args.place.0 in
    let listed : packet_bands h place ≡ range_with_len first (end - first) =
    ap (packet_bands h) (sym at) ∙ ap (λ (g : Header). packet_bands g (place_of c.packet-packet.result)) (sym known.is_slice.geometry) ∙ c.packet_bands-first.ensures.bands in
    let p : PacketLines = record { lines = record { ref_ptr = (0, 0); now = c.load_lines.new.lines }; first = first; end = end; apart = h.signs_apart } in
    let last : end ≤ bands_of h = omega (arith, c.packet_bands-first.ensures.there, ap bands_of known.is_slice.geometry) in
    packet_given h (content_in s) mode place p (λ l. c.write_packet.new.out.bits ≡ c.args.out.now.bits ++ bits_of_bytes l) c.in_ok-write_packet.ensures.bits (packet_known h (content_in s) mode place c.packet-packet.result c.args.lines.now p known.is_slice.heads refl listed at c.requires.modes last c.load_lines.ensures.sent)
