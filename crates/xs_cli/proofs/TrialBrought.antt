-- Whatever is selected of what arrives in a trial, its picture is received.
use Rattle.std.proofs.Common.{◌≡◌, ◌↔◌, ℕ, ◌+◌, ◌*◌, ◌^◌, ◌<◌, ◌≤◌, ◌∷◌, List, [], Contains, Option, Some, None, append-nil, get_or, length, drop, take, Ok, refl, sym, ap, subst, ◌∙◌, arith}
use Rattle.std.specs.Prelude.{IsSome}
use Rattle.std.specs.List.{cons_option}
use Rattle.std.proofs.lemmas.List.Elements.{Contains-get_or}
use Rattle.std.proofs.lemmas.List.{length-map, length-take, take_all}
use Rattle.std.proofs.lemmas.List.Elements.{All-drop, All-from_recursion, All-take, recursion_from_All}
use Rattle.std.proofs.lemmas.List.FromFn.{length-map-range_with_len}
use Rattle.std.proofs.lemmas.List.Sums.{sum_by-cons}
use Rattle.xs_lists.specs.Packing.{AreBytes}
use Rattle.xs_lists.specs.Spelling.{upto}
use Rattle.xs_params.specs.declared.header.Header.{Header}
use Rattle.xs_params.specs.declared.settings.Settings.{Settings}
use Rattle.xs_params.specs.Check.{AreInRange}
use Rattle.xs_params.specs.Headers.{header_of}
use Rattle.xs_params.specs.Picture.{Picture}
use Rattle.xs_params.specs.Stream.{Stream, stream_bytes}
use Rattle.xs_grammar.specs.Codestream.{IsCodestream, IsCodestreamFront}
use Rattle.xs_grammar.specs.Precinct.{Content}
use Rattle.xs_rate.specs.Coefficients.{rows_of_picture}
use Rattle.xs_rate.specs.Encoded.{chosen_content, stated_header}
use Rattle.xs_rate.specs.Encoding.{encoding_of}
use Rattle.xs_rate.proofs.Encoded.{encoded_in_grammar}
use Rattle.xs_decoding.specs.Decoded.{IsDecodingOf}
use Rattle.xs_picture.specs.ReadAgain.{IsReadAs}
use Rattle.xs_picture.specs.StreamRead.{IsPictureRead}
use Rattle.xs_picture.proofs.ReadAgain.{encoded_is_read}
use Rattle.xs_capture.specs.Offer.{Offer, unit_places}
use Rattle.xs_capture.specs.Offers.{offer_of, offers_of}
use Rattle.xs_capture.specs.Pictures.{dealt_parts}
use Rattle.xs_capture.specs.Selection.{IsSelection}
use Rattle.xs_capture.proofs.Firsts.{here, there}
use Rattle.xs_capture.proofs.Selections.{selection_of_set}
use Rattle.xs_pack.specs.Datagrams.{datagram, datagrams_of, piece_count, sent_unit, unit_at, unit_datagrams, unit_pieces, units_of}
use Rattle.xs_pack.specs.Laws.{HaveSame}
use Rattle.xs_pack.specs.Sent.{IsSent}
use Rattle.xs_pack.proofs.Arrived.{offers_are_sent}
use Rattle.xs_pack.proofs.Members.{of_flat, of_map, of_range}
use Rattle.xs_pack.proofs.Offered.{datagram_is_offer}
use Rattle.xs_pack.proofs.Cutting.{unit_count}
use Rattle.xs_recv.specs.declared.received.Received.{Received}
use Rattle.xs_recv.specs.declared.received.Received.TheVariants as received
use Rattle.xs_recv.specs.Laws.{AreDealt as Dealt, AreOffers}
use Rattle.xs_recv.specs.Received.{IsReceived, offered_bytes, offers_of_parts}
use Rattle.xs_recv.proofs.Dealt.{offers_are_dealt}
use Rattle.xs_recv.proofs.OneAnswer.{one_answer}
use Rattle.xs_recv.proofs.Sent.{sent_is_received}
use Rattle.xs_trial.specs.Generator.{shuffle_of}
use Rattle.xs_trial.proofs.Mixing.{length-order}
use Rattle.xs_trial.specs.declared.comparison.Comparison.{Comparison}
use Rattle.xs_cli.specs.declared.trial.TrialOutcome.{TrialOutcome}
use Rattle.xs_cli.specs.Trying.{AreOffered, BringPicture, in_order}
use Rattle.xs_cli.proofs.Exists.{picture_exists}
use Rattle.xs_cli.proofs.TrialDealt.{few_flat, order_same}
use Rattle.xs_cli.proofs.TrialStream.{encoding_sent}

part_bytes : (n m : ℕ) (bytes : List ℕ) → AreBytes bytes → AreBytes (take n (drop m bytes))
part_bytes n m bytes are =
    recursion_from_All (λ (byte : ℕ). byte < 2 ^ 8) (take n (drop m bytes))
    (All-take (λ (byte : ℕ). byte < 2 ^ 8) n (drop m bytes) (All-drop (λ (byte : ℕ). byte < 2 ^ 8) m bytes (All-from_recursion (λ (byte : ℕ). byte < 2 ^ 8) bytes are)))

-- What is encoded is read as its picture

pub record IsReadBack (s : Settings) (source : Picture) (stream : Stream) : Type 0 where
  pub picture : Picture
  pub decoding : IsDecodingOf (stated_header (header_of s) stream) (chosen_content (header_of s) (rows_of_picture (header_of s) source) s.share) picture
  pub read : IsPictureRead picture (stream_bytes stream) (length (stream_bytes stream))

pub encoding_read : (s : Settings) (picture : Picture) (stream : Stream) → AreInRange s → encoding_of s picture ≡ Ok stream → IsReadBack s picture stream
encoding_read s picture stream range e = record {
  picture = decoded.0;
  decoding = decoded.1;
  read = record {
    no_fault = again.no_fault;
    ends = again.ends;
    content = content;
    spelled = subst (λ x. IsCodestreamFront x content bytes (length bytes)) (sym again.header) front;
    decoded = subst (λ x. IsDecodingOf x content decoded.0) (sym again.header) decoded.1;
  };
}
  where
    h : Header
    h = stated_header (header_of s) stream

    bytes : List ℕ
    bytes = stream_bytes stream

    content : Content
    content = chosen_content (header_of s) (rows_of_picture (header_of s) picture) s.share

    front : IsCodestreamFront h content bytes (length bytes)
    front = (omega arith, subst (IsCodestream h content) (sym (take_all (length bytes) bytes (omega arith))) (encoded_in_grammar s picture stream range e).whole)

    decoded : (picture : Picture) × IsDecodingOf h content picture
    decoded = picture_exists h content bytes (length bytes) front

    again : IsReadAs h (length bytes) bytes
    again = subst (IsReadAs h (length bytes)) (append-nil bytes) (encoded_is_read s picture stream [] range e tt)

-- Few packets of few bytes

few_offers : (packets : List (List ℕ)) → length (offers_of packets) ≤ length packets
few_offers [] = omega arith
few_offers (packet ∷ packets) = go (offer_of packet) (few_offers packets)
  where
    go : (o : Option Offer) → length (offers_of packets) ≤ length packets → length (cons_option o (offers_of packets)) ≤ length (packet ∷ packets)
    go None rest = omega (arith, rest)
    go (Some p) rest = omega (arith, rest)

pub sum_of_offers : (most : ℕ) (offers : List Offer) → ((p : Offer) → Contains offers p → length p.bytes ≤ most) → offered_bytes offers ≤ length offers * most
sum_of_offers most [] few = omega arith
sum_of_offers most (p ∷ offers) few =
    let rest = sum_of_offers most offers (λ q has. few q (there p q offers has)) in
    let first = few p (here p offers) in
    let size : length (p ∷ offers) * most ≡ most + length offers * most = grind arith in
    omega (arith, rest, first, size, sum_by-cons (λ (q : Offer). length q.bytes) p offers)

module _ (s : Settings) (picture : Picture) (stream : Stream) (range : AreInRange s) (e : encoding_of s picture ≡ Ok stream) where
  pub few_datagrams : length (datagrams_of s stream 0 0) ≤ 2 ^ 20
  few_datagrams =
      let is = encoding_sent s picture stream range e in
      let units = units_of s.boxes stream in
      let count = unit_count s.boxes stream in
      let slices = is.packable.slices in
      let few = few_flat (λ unit. unit_datagrams s (sent_unit s units 0 0 unit)) 0 (length units)
      (λ k low high.
      let size = length-map-range_with_len (datagram s (sent_unit s units 0 0 k)) 0 (unit_pieces s.chunk units k) in
      let most = is.packable.pieces k (omega (arith, high)) in
      omega (arith, size, most)) in
      omega (arith, few, count, slices)

  pub brings : (arrived : List (List ℕ)) (offers : List Offer) → s.boxes ≡ [] → s.ssrc < 2 ^ 32 → HaveSame arrived (datagrams_of s stream 0 0)
      → ((p : Offer) → Contains (offers_of arrived) p ↔ Contains offers p) → BringPicture s stream offers
  brings arrived offers none ssrc same dealt held answer selection came = (back.picture, one, back.decoding.shape, back.read)
    where
      h : Header
      h = stated_header (header_of s) stream

      content : Content
      content = chosen_content (header_of s) (rows_of_picture (header_of s) picture) s.share

      back : IsReadBack s picture stream
      back = encoding_read s picture stream range e

      chosen : IsSelection (offers_of arrived) held
      chosen = selection_of_set offers (offers_of arrived) held (λ p. ((dealt p).1, (dealt p).0)) selection

      given : IsReceived held (received.Picture back.picture)
      given =
          let is = encoding_sent s picture stream range e in
          sent_is_received s h content stream back.picture 0 0 arrived held is.whole (is.sendable ssrc) same chosen back.decoding

      sent : (p : Offer) → Contains (offers_of arrived) p → IsSent s (units_of s.boxes stream) 0 p
      sent p has = let is = encoding_sent s picture stream range e in (offers_are_sent s (units_of s.boxes stream) arrived 0 0 (is.sendable ssrc) same p).0 has

      are : AreOffers (offers_of arrived)
      are = record {
        place = λ p has.
            let from = sent p has in
            let is = encoding_sent s picture stream range e in
            let few = is.packable.pieces from.0 from.2.0 in
            subst (λ (q : Offer). q.place < unit_places) (sym from.3) (omega (arith, few, from.2.1));
        bytes = λ p has.
            let from = sent p has in
            let is = encoding_sent s picture stream range e in
            subst (λ (q : Offer). AreBytes q.bytes) (sym from.3) (part_bytes s.chunk (from.1 * s.chunk) (unit_at (units_of s.boxes stream) from.0) (is.bytes none from.0 from.2.0));
      }

      one : answer ≡ received.Picture back.picture
      one = one_answer (offers_of arrived) held answer (received.Picture back.picture) are chosen came given

  pub sent_bytes : (arrived : List (List ℕ)) → s.ssrc < 2 ^ 32 → s.chunk < 2 ^ 11 → HaveSame arrived (datagrams_of s stream 0 0) → length arrived ≤ 2 ^ 21 → offered_bytes (offers_of arrived) < 2 ^ 32
  sent_bytes arrived ssrc chunk same few =
      let is = encoding_sent s picture stream range e in
      let sum = sum_of_offers 2047 (offers_of arrived) (λ p has.
      let from = (offers_are_sent s (units_of s.boxes stream) arrived 0 0 (is.sendable ssrc) same p).0 has in
      let size = length-take s.chunk (drop (from.1 * s.chunk) (unit_at (units_of s.boxes stream) from.0)) in
      subst (λ (q : Offer). length q.bytes ≤ 2047) (sym from.3) (omega (arith, size, chunk))) in
      let offers = few_offers arrived in
      omega (arith, sum, offers, few)

  -- each packet is an offer
  pub datagrams_offered : s.ssrc < 2 ^ 32 → AreOffered (datagrams_of s stream 0 0)
  datagrams_offered ssrc k inside =
      let is = encoding_sent s picture stream range e in
      let units = units_of s.boxes stream in
      let packets = datagrams_of s stream 0 0 in
      let unit = of_flat (λ unit. unit_datagrams s (sent_unit s units 0 0 unit)) (upto (length units)) (get_or packets k []) (Contains-get_or packets k [] inside) in
      let of_unit = of_range 0 (length units) unit.0 unit.1 in
      let piece = of_map (datagram s (sent_unit s units 0 0 unit.0)) (upto (piece_count s.chunk (unit_at units unit.0))) (get_or packets k []) unit.2 in
      let of_piece = of_range 0 (piece_count s.chunk (unit_at units unit.0)) piece.0 piece.1 in
      let offered = datagram_is_offer s units 0 0 unit.0 piece.0 (is.sendable ssrc) (omega (arith, of_unit.1), omega (arith, of_piece.1)) in
      subst (λ packet. IsSome (offer_of packet)) piece.2 (subst IsSome (sym offered) refl)

-- the parts that the packets are dealt to
pub record AreDealt (s : Settings) (stream : Stream) (parts : List (List Offer)) : Type 0 where
  pub count : length parts ≤ 8
  pub size : offered_bytes (offers_of_parts parts) < 2 ^ 32
  pub brings : BringPicture s stream (offers_of_parts parts)

pub dealt : (s : Settings) (picture : Picture) (stream : Stream) → AreInRange s → encoding_of s picture ≡ Ok stream → s.boxes ≡ [] → s.ssrc < 2 ^ 32 → s.chunk < 2 ^ 11
    → (packets : List (List ℕ)) (parts : List (List Offer)) (feeders state : ℕ) → packets ≡ datagrams_of s stream 0 0 → 1 ≤ feeders → feeders ≤ 8
    → parts ≡ dealt_parts feeders (offers_of (in_order packets (shuffle_of (length packets) state))) → AreDealt s stream parts
dealt s picture stream range e none ssrc chunk packets parts feeders state are some most same = subst (AreDealt s stream) (sym same) (record {
  count = omega (arith, given.count, most);
  size = omega (arith, given.size, sent_bytes s picture stream range e arrived ssrc chunk as_sent few);
  brings = brings s picture stream range e arrived (offers_of_parts (dealt_parts feeders (offers_of arrived))) none ssrc as_sent given.same;
})
  where
    arrived : List (List ℕ)
    arrived = in_order packets (shuffle_of (length packets) state)

    given : Dealt feeders (offers_of arrived)
    given = offers_are_dealt feeders (offers_of arrived) some

    as_sent : HaveSame arrived (datagrams_of s stream 0 0)
    as_sent = subst (HaveSame arrived) are (order_same packets state)

    few : length arrived ≤ 2 ^ 21
    few =
        let order = length-order (length packets) state in
        let size = length-map (shuffle_of (length packets) state) (λ number. get_or packets number []) in
        let count = few_datagrams s picture stream range e in
        omega (arith, order, size, count, ap length are)

-- what was received is one picture
picture_in : Received → Picture → Picture
picture_in (received.Picture picture) other = picture
picture_in answer other = other

pub one_received : (a b : Picture) → received.Picture a ≡ received.Picture b → a ≡ b
unfolding picture_in
one_received a b e = ap (λ answer. picture_in answer a) e

-- an outcome is told by its fields
pub same_outcome : (slices bytes packets slices' bytes' packets' : ℕ) (found found' : Comparison) → slices ≡ slices' → bytes ≡ bytes' → packets ≡ packets' → found ≡ found'
    → ◌≡◌ {A = TrialOutcome} (record { slices = slices; bytes = bytes; packets = packets; found = found }) (record { slices = slices'; bytes = bytes'; packets = packets'; found = found' })
same_outcome slices bytes packets slices' bytes' packets' found found' p q r t =
    ap (λ x. record { slices = x; bytes = bytes; packets = packets; found = found }) p ∙ ap (λ x. record { slices = slices'; bytes = x; packets = packets; found = found }) q
    ∙ ap (λ x. record { slices = slices'; bytes = bytes'; packets = x; found = found }) r ∙ ap (λ x. record { slices = slices'; bytes = bytes'; packets = packets'; found = x }) t
