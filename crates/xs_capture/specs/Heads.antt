-- What the headers of an offer say, and where its bytes stand.
use Rattle.std.specs.Prelude.{ℕ, ◌<◌, ◌≤◌, List, length, slice_range}
use Rattle.xs_capture.specs.declared.offers.Head.{Head}
use Rattle.xs_capture.specs.Offer.{Offer, last_unit, unit_places}

-- the offer with these headers and these bytes
abbrev pub with_bytes : Head → List ℕ → Offer
with_bytes head bytes = record { timestamp = head.timestamp; unit = head.unit; place = head.place; last = head.last; bytes = bytes }

-- the offer whose bytes stand so in the packet
abbrev pub offer_by : List ℕ → Head → Offer
offer_by packet head = with_bytes head (slice_range packet head.first head.end)

-- the bytes stand in the packet, and unit and place are such as there are
pub record IsHeadIn (packet : List ℕ) (head : Head) : Type 0 where
  pub begin : head.first ≤ head.end
  pub end : head.end ≤ length packet
  pub unit : head.unit ≤ last_unit
  pub place : head.place < unit_places
