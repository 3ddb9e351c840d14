-- Which packets are offers: 'RTP packets and captures'.
use Rattle.std.specs.Prelude.{◌≡◌, ℕ, ◌+◌, ◌-◌, Bool, not, ◌&&◌, nat_eq, nat_lt, is_none, if◌then◌else◌, Ok, Err, Option, None, Some, List, length, take, drop, filter, filter_map, count_by, Contains}
use Rattle.xs_rtp.specs.declared.payload.Pay.{Pay}
use Rattle.xs_rtp.specs.Packet.{rtp_read}
use Rattle.xs_rtp.specs.Payload.{pay_of}
use Rattle.xs_capture.specs.Offer.{Offer, unit_places}

-- the payload header is that of slice mode, of a frame picture, and of a place that there is
abbrev pub is_offered : Pay → Bool
is_offered pay = pay.slice_mode && nat_eq pay.interlace 0 && nat_lt pay.place unit_places

-- unit 0 is the header, and unit k + 1 is slice k
abbrev pub unit_of : ℕ → ℕ
unit_of sep = if nat_eq sep 2047 then 0 else sep + 1

-- the packet that a payload carries: the bytes after its header, possibly none
abbrev pub packet_of : ℕ → List ℕ → Offer
packet_of timestamp payload = record {
  timestamp = timestamp;
  unit = unit_of (pay_of payload).sep;
  place = (pay_of payload).place;
  last = (pay_of payload).last;
  bytes = drop 4 payload;
}

-- the offer of a payload, if it is one
abbrev pub offer_of_payload : ℕ → List ℕ → Option Offer
offer_of_payload timestamp payload =
    if not (nat_lt (length payload) 4) && is_offered (pay_of payload) then Some (packet_of timestamp payload) else None

-- the offer that an RTP packet is, if it is one
unfoldable pub offer_of : List ℕ → Option Offer
offer_of packet = elim (rtp_read packet) [ Ok read ↦ offer_of_payload read.0.timestamp (take (read.2 - read.1) (drop read.1 packet)) | Err fault ↦ None ]

-- the offers, in order
abbrev pub offers_of : List (List ℕ) → List Offer
offers_of packets = filter_map offer_of packets

-- how many packets are none, and are stepped over
abbrev pub stepped_of : List (List ℕ) → ℕ
stepped_of packets = count_by (λ packet. is_none (offer_of packet)) packets

-- the offers of one picture, in order
abbrev pub offers_at : ℕ → List Offer → List Offer
offers_at timestamp offers = filter (λ (p : Offer). nat_eq p.timestamp timestamp) offers

-- two offers of one place agree: both close the unit or neither does, and their bytes are equal
pub record Agree (p q : Offer) : Type 0 where
  pub last : p.last ≡ q.last
  pub bytes : p.bytes ≡ q.bytes

-- any two offers of one picture, unit and place agree
abbrev pub AllAgree : List Offer → Type 0
AllAgree offers = (p q : Offer) → Contains offers p → Contains offers q → p.timestamp ≡ q.timestamp → p.unit ≡ q.unit → p.place ≡ q.place → Agree p q
