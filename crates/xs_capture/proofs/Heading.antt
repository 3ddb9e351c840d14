-- An offer by its headers, and bytes that stand in a part.
use Rattle.std.proofs.Common.{◌≡◌, ℕ, ◌+◌, ◌-◌, ◌<◌, ◌≤◌, List, length, take, drop, true, false, refl, sym, ap, ◌∙◌, arith, Option, Some, None, Result, Ok, Err}
use Rattle.std.specs.Prelude.{not, ◌&&◌, ◌↔◌, slice_range, if◌then◌else◌, IsErr}
use Rattle.std.specs.Result.{result_ok}
use mathlib.Core.Logic.{inl, inr}
use Rattle.std.proofs.lemmas.Bool.{cases_lt, le-ltb, lt-ltb}
use Rattle.std.proofs.lemmas.List.{drop-drop, take-take}
use Rattle.bytes.proofs.Ranges.{drop-take_less}
use Rattle.xs_rtp.specs.declared.packet.Rtp.{Rtp}
use Rattle.xs_rtp.specs.declared.packet.RtpFault.{RtpFault}
use Rattle.xs_rtp.specs.declared.payload.Pay.{Pay}
use Rattle.xs_rtp.specs.declared.payload.PayShort.{PayShort}
use Rattle.xs_rtp.specs.Packet.{rtp_read}
use Rattle.xs_rtp.specs.Payload.{pay_of}
use Rattle.xs_capture.specs.Offer.{Offer}
use Rattle.xs_capture.specs.Offers.{is_offered, offer_of, offer_of_payload, packet_of, unit_of}
use Rattle.xs_capture.specs.Heads.{offer_by}

-- what is left of a part without its front
part_after : (xs : List ℕ) (a b n : ℕ) → a + n ≤ b → drop n (slice_range xs a b) ≡ slice_range xs (a + n) b
part_after xs a b n most =
    let less : n ≤ b - a = omega (arith, most) in
    let rest : b - a - n ≡ b - (a + n) = omega arith in
    drop-take_less (drop a xs) n (b - a) less ∙ ap (take (b - a - n)) (drop-drop n a xs) ∙ ap (λ k. take k (drop (a + n) xs)) rest

-- a part of a part
pub part_of_part : (xs : List ℕ) (a b c d : ℕ) → a + d ≤ b → c ≤ d → slice_range (slice_range xs a b) c d ≡ slice_range xs (a + c) (a + d)
part_of_part xs a b c d most order =
    let less : a + c ≤ b = omega (arith, most, order) in
    let room : d - c ≤ b - (a + c) = omega (arith, most, order) in
    let size : d - c ≡ a + d - (a + c) = omega (arith, order) in
    ap (take (d - c)) (part_after xs a b c less) ∙ take-take (d - c) (b - (a + c)) (drop (a + c) xs) room ∙ ap (λ k. take k (drop (a + c) xs)) size

-- what a packet is as an offer hangs on its payload
by_payload : (packet : List ℕ) (rtp : Rtp) (begin end : ℕ) → rtp_read packet ≡ Ok (rtp, begin, end) → offer_of packet ≡ offer_of_payload rtp.timestamp (slice_range packet begin end)
unfolding offer_of
by_payload packet rtp begin end read =
    ap (λ r. elim r as (λ (x : Result (Rtp × ℕ × ℕ) RtpFault). Option Offer) [ Ok read ↦ offer_of_payload read.0.timestamp (take (read.2 - read.1) (drop read.1 packet)) | Err fault ↦ None ]) read

-- what is no RTP packet is no offer
pub not_rtp : (packet : List ℕ) → result_ok (rtp_read packet) ≡ None → offer_of packet ≡ None
unfolding offer_of
not_rtp packet none = by_cases (rtp_read packet) none
  where
    by_cases : (r : Result (Rtp × ℕ × ℕ) RtpFault) → result_ok r ≡ None
        → (elim r as (λ (x : Result (Rtp × ℕ × ℕ) RtpFault). Option Offer) [ Ok read ↦ offer_of_payload read.0.timestamp (take (read.2 - read.1) (drop read.1 packet)) | Err fault ↦ None ]) ≡ None
    by_cases (Ok read) e = absurd (cc e)
    by_cases (Err fault) e = refl

-- nor is a payload without its header
pub too_short : (packet : List ℕ) (rtp : Rtp) (begin end : ℕ) → rtp_read packet ≡ Ok (rtp, begin, end) → length (slice_range packet begin end) < 4 → offer_of packet ≡ None
too_short packet rtp begin end read few =
    by_payload packet rtp begin end read
    ∙ ap (λ b. if not b && is_offered (pay_of (slice_range packet begin end)) then Some (packet_of rtp.timestamp (slice_range packet begin end)) else None) (lt-ltb (length (slice_range packet begin end)) 4 few)

pub is_short : (r : Result Pay PayShort) (payload : List ℕ) → (IsErr r ↔ (length payload < 4)) → result_ok r ≡ None → length payload < 4
is_short (Ok pay) payload short none = absurd (cc none)
is_short (Err fault) payload short none = short.0 refl

pub enough_of : (r : Result Pay PayShort) (pay : Pay) (payload : List ℕ) → r ≡ Ok pay → (IsErr r ↔ (length payload < 4)) → 4 ≤ length payload
enough_of (Ok given) pay payload is short = elim (cases_lt (length payload) 4) [
  | inl few ↦ absurd (cc (short.1 few))
  | inr enough ↦ enough
]
enough_of (Err fault) pay payload is short = absurd (cc is)

with_header : (payload : List ℕ) (timestamp : ℕ) → 4 ≤ length payload → offer_of_payload timestamp payload ≡ (if is_offered (pay_of payload) then Some (packet_of timestamp payload) else None)
with_header payload timestamp enough =
    ap (λ b. if not b && is_offered (pay_of payload) then Some (packet_of timestamp payload) else None) (le-ltb (length payload) 4 enough)

-- nor is one with another header than those of offers
pub not_offered : (packet : List ℕ) (rtp : Rtp) (begin end : ℕ) (pay : Pay) → rtp_read packet ≡ Ok (rtp, begin, end) → 4 ≤ length (slice_range packet begin end)
    → pay ≡ pay_of (slice_range packet begin end) → is_offered pay ≡ false → offer_of packet ≡ None
not_offered packet rtp begin end pay read enough said other =
    by_payload packet rtp begin end read ∙ with_header (slice_range packet begin end) rtp.timestamp enough
    ∙ ap (λ b. if b then Some (packet_of rtp.timestamp (slice_range packet begin end)) else None) (ap is_offered (sym said) ∙ other)

-- the headers of an offer
pub is_offer : (packet : List ℕ) (rtp : Rtp) (begin end : ℕ) (pay : Pay) (unit : ℕ) → rtp_read packet ≡ Ok (rtp, begin, end) → begin + 4 ≤ end → 4 ≤ length (slice_range packet begin end)
    → pay ≡ pay_of (slice_range packet begin end) → is_offered pay ≡ true → unit ≡ unit_of pay.sep
    → offer_of packet ≡ Some (offer_by packet (record { timestamp = rtp.timestamp; unit = unit; place = pay.place; last = pay.last; first = begin + 4; end = end }))
is_offer packet rtp begin end pay unit read room enough said so names =
    by_payload packet rtp begin end read ∙ with_header (slice_range packet begin end) rtp.timestamp enough
    ∙ ap (λ b. if b then Some (packet_of rtp.timestamp (slice_range packet begin end)) else None) (ap is_offered (sym said) ∙ so)
    ∙ ap (λ (p : Pay). Some (record { timestamp = rtp.timestamp; unit = unit_of p.sep; place = p.place; last = p.last; bytes = drop 4 (slice_range packet begin end) })) (sym said)
    ∙ ap (λ u. Some (record { timestamp = rtp.timestamp; unit = u; place = pay.place; last = pay.last; bytes = drop 4 (slice_range packet begin end) })) (sym names)
    ∙ ap (λ l. Some (record { timestamp = rtp.timestamp; unit = unit; place = pay.place; last = pay.last; bytes = l })) (part_after packet begin end 4 room)
