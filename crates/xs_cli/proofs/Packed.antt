-- The packets of an encoding: none of its units has too many, and each has room in its envelope.
use Rattle.std.proofs.Common.{◌≡◌, ℕ, ◌+◌, ◌-◌, ◌*◌, ◌<◌, ◌≤◌, ◌++◌, List, [], length, drop, get_or, Ok, Err, refl, subst, arith}
use Rattle.std.specs.Prelude.{All}
use Rattle.std.specs.List.{Contains, flat_map, sum_by}
use Rattle.std.proofs.lemmas.List.{at_drop_all, at_drop_more, length-take}
use Rattle.std.proofs.lemmas.List.Elements.{All-from_get_or, Contains-get_or}
use Rattle.xs_lists.specs.Spelling.{upto}
use Rattle.xs_layout.specs.Geometry.{components_of}
use Rattle.xs_params.specs.declared.settings.Settings.{Settings}
use Rattle.xs_params.specs.Check.{AreInRange}
use Rattle.xs_params.specs.Geometry.{bands_of, slice_count}
use Rattle.xs_params.specs.Headers.{header_of}
use Rattle.xs_params.specs.Picture.{Picture}
use Rattle.xs_params.specs.Stream.{Stream}
use Rattle.xs_grammar.specs.Coded.{header_bytes}
use Rattle.xs_rate.specs.Chosen.{chosen_candidate}
use Rattle.xs_rate.specs.Coefficients.{rows_of_picture}
use Rattle.xs_rate.specs.Encoded.{chosen_stream}
use Rattle.xs_rate.specs.Encoding.{encoding_of, slices_at}
use Rattle.xs_rate.proofs.Encoded.{encoded_in_grammar}
use Rattle.xs_rate.proofs.FirstOver.{first_over_law, same_stream}
use Rattle.xs_rate.proofs.Headers.{components-few, few-bands, header-size}
use Rattle.xs_cli.specs.declared.encoding.Envelope.{Envelope}
use Rattle.xs_cli.specs.Encoded.{FitsEnvelope, enveloped}
use Rattle.xs_pack.specs.Datagrams.{IsPackable, SentUnit, datagram, datagrams_of, piece_count, piece_of, sent_unit, unit_datagrams, units_of}
use Rattle.xs_pack.proofs.Cutting.{packable}
use Rattle.xs_pack.proofs.Members.{of_flat, of_map}
use Rattle.xs_endings.specs.declared.stop.Stop.{Stop}
use Rattle.xs_endings.specs.declared.stop.Stop.TheVariants as stop
use Rattle.xs_endings.specs.Ends.{Change}
use Rattle.xs_endings.specs.Steps.{IsGiven}
use Rattle.xs_endings.specs.Turns.{IsTaken, Writes}

-- Packing

few_header : (s : Settings) (picture : Picture) (stream : Stream) → AreInRange s → encoding_of s picture ≡ Ok stream → length stream.header ≤ 108
few_header s picture stream range e =
    let h = header_of s in
    let rows = rows_of_picture h picture in
    let chosen = chosen_stream h rows s.share s.fill in
    let given = first_over_law.given s picture ((first_over_law.encoded s picture).0 (stream, e)) in
    subst (λ (t : Stream). length t.header ≤ 108) (same_stream (encoding_of s picture) chosen stream given e)
    (bound (length chosen.header) (header-size s range (length (header_bytes h) + sum_by length (slices_at h rows s.share s.fill (chosen_candidate h rows s.share)) + 2)) (components-few s.shape.format) (few-bands s range))
  where
    bound : (n : ℕ) → n ≡ 42 + 2 * components_of s.shape.format + 2 * bands_of (header_of s) → components_of s.shape.format ≤ 3 → bands_of (header_of s) ≤ 30 → n ≤ 108
    bound n p q r = omega (arith, p, q, r)

-- an encoding can be packed
pub encoding_packable : (s : Settings) (picture : Picture) (stream : Stream) → AreInRange s → encoding_of s picture ≡ Ok stream → IsPackable s stream
encoding_packable s picture stream range e =
    let chunk : 64 ≤ s.chunk = range.chunk.0 in
    let share : s.share ≤ 512 * s.chunk - 2 = range.share.1 in
    let boxes : length s.boxes ≤ 2048 = range.few_boxes in
    let few : slice_count (header_of s) ≤ 2047 = range.slices in
    let is = encoded_in_grammar s picture stream range e in
    packable s stream (omega (arith, chunk)) (omega (arith, is.count, few)) (omega (arith, chunk, boxes, few_header s picture stream range e))
    (λ k inside. let within = (is.each k (omega (arith, inside, is.count))).within in omega (arith, within, share, chunk))

-- Envelopes

short_datagram : (s : Settings) (unit : SentUnit) (piece : ℕ) → s.chunk ≤ 8192 → FitsEnvelope (datagram s unit piece)
short_datagram s unit piece few =
    let cut : length (piece_of s.chunk unit.bytes piece) ≤ s.chunk = omega (arith, length-take s.chunk (drop (piece * s.chunk) unit.bytes)) in
    let size : length (datagram s unit piece) ≡ 16 + length (piece_of s.chunk unit.bytes piece) = omega arith in
    omega (arith, cut, size, few)

-- each packet has room in a frame, and in a record
pub short_datagrams : (s : Settings) (stream : Stream) (picture sequence : ℕ) → AreInRange s → All FitsEnvelope (datagrams_of s stream picture sequence)
short_datagrams s stream picture sequence range = All-from_get_or FitsEnvelope packets [] (λ n inside. one (get_or packets n []) (Contains-get_or packets n [] inside))
  where
    packets : List (List ℕ)
    packets = datagrams_of s stream picture sequence

    unit_of : ℕ → SentUnit
    unit_of unit = sent_unit s (units_of s.boxes stream) picture sequence unit

    one : (packet : List ℕ) → Contains packets packet → FitsEnvelope packet
    one packet there =
        let unit = of_flat (λ unit. unit_datagrams s (unit_of unit)) (upto (length (units_of s.boxes stream))) packet there in
        let piece = of_map (datagram s (unit_of unit.0)) (upto (piece_count s.chunk (unit_of unit.0).bytes)) packet unit.2 in
        subst FitsEnvelope piece.2 (short_datagram s (unit_of unit.0) piece.0 range.chunk.1)

-- the packets from a number on, each in its envelope
pub frame_next : (envelope : Envelope) (packets : List (List ℕ)) (at : ℕ) → at < length packets
    → flat_map (enveloped envelope) (drop at packets) ≡ enveloped envelope (get_or packets at []) ++ flat_map (enveloped envelope) (drop (at + 1) packets)
frame_next envelope packets at below = at_drop_more (flat_map (enveloped envelope)) packets at [] below

pub frames_none : (envelope : Envelope) (packets : List (List ℕ)) (at : ℕ) → length packets ≤ at → flat_map (enveloped envelope) (drop at packets) ≡ []
frames_none envelope packets at end = at_drop_all (flat_map (enveloped envelope)) packets at end

-- a piece that was cut
pub cut_taken : (output : Change) (piece : List ℕ) (size packets : ℕ) (why : Stop) → IsGiven {T = Unit {0}} output piece (Err why) → IsTaken output (Writes size piece packets) (Err why)
cut_taken output piece size packets stop.WriteFault given = (given.failed refl, given.front)
cut_taken output piece size packets stop.Memory given = given.front
cut_taken output piece size packets stop.ReadFault given = absurd given.why
cut_taken output piece size packets (stop.Told note) given = absurd given.why
