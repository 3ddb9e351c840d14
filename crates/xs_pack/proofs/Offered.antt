-- A packet of a codestream is the offer of its piece.
use Rattle.std.proofs.Common.{◌≡◌, ℕ, zero, suc, ◌+◌, ◌-◌, ◌%◌, ◌^◌, ◌<◌, ◌≤◌, List, ◌++◌, length, take, drop, Bool, true, false, Option, Some, None, refl, sym, ap, subst, ◌∙◌, arith}
use Rattle.std.specs.Prelude.{nat_eq, nat_lt, not, ◌&&◌, if◌then◌else◌, Ok, Err}
use Rattle.std.proofs.Math.Dec.{eqb-suc-zero}
use Rattle.std.proofs.lemmas.Bool.{lt-ltb, le-ltb, eqb-true}
use Rattle.std.proofs.lemmas.List.{drop_at, take_all}
use Rattle.xs_lists.specs.Bits.{FieldsFit}
use Rattle.xs_rtp.specs.declared.payload.Pay.{Pay}
use Rattle.xs_rtp.specs.declared.packet.Rtp.{Rtp}
use Rattle.xs_rtp.specs.Packet.{HasRtpRoom, rtp_bytes}
use Rattle.xs_rtp.specs.Payload.{pay_fields, pay_bytes, pay_of}
use Rattle.xs_rtp.proofs.Again as again
use Rattle.xs_capture.specs.Offer.{Offer}
use Rattle.xs_capture.specs.Offers.{is_offered, unit_of, offer_of_payload, offer_of}
use Rattle.xs_pack.specs.Datagrams.{unit_at, piece_of, unit_pieces, piece_rtp, piece_pay, sent_unit}
use Rattle.xs_pack.specs.Laws.{DatagramIsOffer}
use Rattle.xs_pack.proofs.Pieces.{few_pieces}

-- the number of a unit comes back from the one that is sent
unit_again : (unit : ℕ) → unit ≤ 2047 → unit_of (if nat_eq unit 0 then 2047 else unit - 1) ≡ unit
unit_again zero few = refl
unit_again (suc unit) few = ap (λ b. unit_of (if b then 2047 else suc unit - 1)) (eqb-suc-zero unit) ∙ named unit (suc unit - 1) (omega arith) (omega (arith, few))
  where
    other : (b : Bool) (n : ℕ) → b ≡ false → (if b then 0 else n + 1) ≡ n + 1
    other b n e = ap (λ x. if x then 0 else n + 1) e

    not_it : (n : ℕ) → n ≤ 2046 → (b : Bool) → nat_eq n 2047 ≡ b → nat_eq n 2047 ≡ false
    not_it n low true e = let same : n ≡ 2047 = eqb-true n 2047 e in absurd (omega (arith, same, low))
    not_it n low false e = e

    named : (unit n : ℕ) → n ≡ unit → unit ≤ 2046 → (if nat_eq n 2047 then 0 else n + 1) ≡ suc unit
    named unit n e low =
        let small : n ≤ 2046 = omega (arith, e, low) in
        let one : n + 1 ≡ suc unit = omega (arith, e) in
        other (nat_eq n 2047) n (not_it n small (nat_eq n 2047) refl) ∙ one

sep_small : (unit : ℕ) → unit ≤ 2047 → (if nat_eq unit 0 then 2047 else unit - 1) < 2 ^ 11
sep_small zero few = omega arith
sep_small (suc unit) few =
    let small : suc unit - 1 < 2 ^ 11 = omega (arith, few) in
    subst (λ n. n < 2 ^ 11) (sym (ap (λ b. if b then 2047 else suc unit - 1) (eqb-suc-zero unit))) small

abbrev packet_with : (timestamp unit place : ℕ) → Bool → List ℕ → Offer
packet_with timestamp unit place last bytes = record { timestamp = timestamp; unit = unit; place = place; last = last; bytes = bytes }

-- the offer of a payload that was written
payload_offer : (timestamp unit : ℕ) (pay : Pay) (piece : List ℕ) → FieldsFit (pay_fields pay) → is_offered pay ≡ true → unit_of pay.sep ≡ unit
    → offer_of_payload timestamp (pay_bytes pay ++ piece) ≡ Some (packet_with timestamp unit pay.place pay.last piece)
payload_offer timestamp unit pay piece room offered named =
    let said : pay_of (pay_bytes pay ++ piece) ≡ pay = again.payload_header pay piece room in
    let size : length (pay_bytes pay ++ piece) ≡ 4 + length piece = omega arith in
    let enough : not (nat_lt (length (pay_bytes pay ++ piece)) 4) ≡ true = ap not (le-ltb (length (pay_bytes pay ++ piece)) 4 (omega (arith, size))) in
    let back : drop 4 (pay_bytes pay ++ piece) ≡ piece = drop_at (pay_bytes pay) piece 4 refl in
    ap (λ b. if b && is_offered (pay_of (pay_bytes pay ++ piece)) then Some (packet_with timestamp (unit_of (pay_of (pay_bytes pay ++ piece)).sep) (pay_of (pay_bytes pay ++ piece)).place (pay_of (pay_bytes pay ++ piece)).last (drop 4 (pay_bytes pay ++ piece))) else None) enough
    ∙ ap (λ (q : Pay). if is_offered q then Some (packet_with timestamp (unit_of q.sep) q.place q.last (drop 4 (pay_bytes pay ++ piece))) else None) said
    ∙ ap (λ b. if b then Some (packet_with timestamp (unit_of pay.sep) pay.place pay.last (drop 4 (pay_bytes pay ++ piece))) else None) offered
    ∙ ap (λ l. Some (packet_with timestamp (unit_of pay.sep) pay.place pay.last l)) back
    ∙ ap (λ u. Some (packet_with timestamp u pay.place pay.last piece)) named

-- and of its packet
packet_offer : (rtp : Rtp) (payload : List ℕ) → HasRtpRoom rtp → offer_of (rtp_bytes rtp ++ payload) ≡ offer_of_payload rtp.timestamp payload
unfolding offer_of
packet_offer rtp payload room =
    let packet = rtp_bytes rtp ++ payload in
    let back : drop 12 packet ≡ payload = drop_at (rtp_bytes rtp) payload 12 refl in
    let count : 12 + length payload - 12 ≡ length payload = omega arith in
    let all : length payload ≤ length payload = omega arith in
    ap (λ read. elim read as (λ x. Option Offer) [ Ok r ↦ offer_of_payload r.0.timestamp (take (r.2 - r.1) (drop r.1 packet)) | Err fault ↦ None ]) (again.rtp_header rtp payload room)
    ∙ ap (λ l. offer_of_payload rtp.timestamp (take (12 + length payload - 12) l)) back
    ∙ ap (λ n. offer_of_payload rtp.timestamp (take n payload)) count
    ∙ ap (offer_of_payload rtp.timestamp) (take_all (length payload) payload all)

pub datagram_is_offer : DatagramIsOffer
datagram_is_offer s units picture sequence unit piece sendable there =
    let rtp = piece_rtp s (sent_unit s units picture sequence unit) piece in
    let pay = piece_pay s (sent_unit s units picture sequence unit) piece in
    let bytes = piece_of s.chunk (unit_at units unit) piece in
    let pieces : unit_pieces s.chunk units unit ≤ 512 = few_pieces s.chunk (unit_at units unit) sendable.chunk (sendable.short unit there.0) in
    let low : piece < 512 = omega (arith, there.1, pieces) in
    let few : unit ≤ 2047 = omega (arith, there.0, sendable.few) in
    let piece_room : piece < 2 ^ 11 = omega (arith, low) in
    let frame_room : picture % 32 < 2 ^ 5 = omega arith in
    let sequence_room : rtp.sequence < 2 ^ 16 = omega arith in
    let two : 2 < 2 ^ 2 = omega arith in
    let one : 1 < 2 ^ 1 = omega arith in
    let none : 0 < 2 ^ 1 = omega arith in
    let zeros : 0 < 2 ^ 4 = omega arith in
    let plain : 0 < 2 ^ 2 = omega arith in
    let rtp_room : HasRtpRoom rtp = (two, (none, (none, (zeros, (again.bit_below rtp.marker, (sendable.payload_type, (sequence_room, (sendable.timestamp, (sendable.ssrc, tt))))))))) in
    let pay_room : FieldsFit (pay_fields pay) = (one, (one, (again.bit_below pay.last, (plain, (frame_room, (sep_small unit few, (piece_room, tt))))))) in
    packet_offer rtp (pay_bytes pay ++ bytes) rtp_room ∙ payload_offer rtp.timestamp unit pay bytes pay_room (lt-ltb piece 512 low) (unit_again unit few)
