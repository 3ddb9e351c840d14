-- What is received of a picture, by the packets that are selected of its offers: 'RTP packets and captures' and 'Notes'.
use Rattle.std.specs.Prelude.{◌≡◌, ◌≢◌, ⊤, ℕ, ◌+◌, ◌*◌, ◌<◌, ◌⊎◌, true, false, Option, None, Some, List, All, [], length, sum_by, flat_map, slice_index_or}
use Rattle.xs_params.specs.declared.header.Header.{Header}
use Rattle.xs_params.specs.Geometry.{slice_count}
use Rattle.xs_params.specs.Picture.{Picture}
use Rattle.xs_faults.specs.declared.SliceFault.{SliceFault}
use Rattle.xs_grammar.specs.Header.{IsHeaderUnit}
use Rattle.xs_grammar.specs.Precinct.{Content}
use Rattle.xs_grammar.specs.Slice.{IsSliceUnit}
use Rattle.xs_reading.specs.Slice.{slice_unit_fault}
use Rattle.xs_markers.specs.Units.{header_unit_fault}
use Rattle.xs_decoding.specs.Decoded.{IsDecodingOf}
use Rattle.xs_lane_core.specs.Machine.{Actor}
use Rattle.xs_lanes.specs.Claiming.{got_in}
use Rattle.xs_stripe.specs.declared.stripe.Stripe.{Stripe}
use Rattle.xs_stripe.specs.Stripe.{line_of}
use Rattle.xs_stripe.specs.Written.{HasLinesOf}
use Rattle.xs_handover.specs.Blocks.{Carried, blocks}
use Rattle.xs_capture.specs.Offer.{Offer}
use Rattle.xs_capture.specs.Selection.{Held, IsWholeUnit, HasBytes, AreMissing}
use Rattle.xs_recv.specs.declared.received.Damage.TheVariants as damage
use Rattle.xs_recv.specs.declared.received.Received.{Received}
use Rattle.xs_recv.specs.declared.received.Received.TheVariants as received
use Rattle.xs_recv.specs.Handed.{IsBlockIn, IsMadeBy}

-- Offers

-- the offers of all parts
abbrev pub offers_of_parts : List (List Offer) → List Offer
offers_of_parts parts = flat_map (λ part. part) parts

-- how many bytes they have together
abbrev pub offered_bytes : List Offer → ℕ
offered_bytes offers = sum_by (λ (p : Offer). length p.bytes) offers

-- Units

-- the unit of a slice
abbrev pub slice_unit : ℕ → ℕ
slice_unit slice = slice + 1

-- the header unit is whole, and its bytes are boxes and a header of so many bytes
pub record HasHeader (held : Held) (h : Header) (size : ℕ) : Type 0 where
  pub bytes : List ℕ
  pub whole : HasBytes held 0 bytes
  pub spelled : IsHeaderUnit h bytes size

-- all slices of the header are whole, and these are the bytes of their units in order
pub record AreUnits (held : Held) (h : Header) (units : List (List ℕ)) : Type 0 where
  pub count : length units ≡ slice_count h
  pub each : (slice : ℕ) → slice < slice_count h → HasBytes held (slice_unit slice) (slice_index_or units slice [])

-- all slices are in the grammar, with one content of which each has its own part
abbrev pub AreSpelled : Header → Content → List (List ℕ) → Type 0
AreSpelled h content units = (slice : ℕ) → slice < slice_count h → IsSliceUnit h content slice (slice_index_or units slice [])

-- the first fault of a slice by the bytes of its unit
abbrev pub fault_in : Header → List (List ℕ) → ℕ → Option SliceFault
fault_in h units slice = slice_unit_fault h slice (slice_index_or units slice [])

-- the slice is the first that has a fault, and this is it
pub record IsDamagedAt (h : Header) (units : List (List ℕ)) (slice : ℕ) (fault : SliceFault) : Type 0 where
  pub there : slice < slice_count h
  pub before : (earlier : ℕ) → earlier < slice → fault_in h units earlier ≡ None
  pub faulty : fault_in h units slice ≡ Some fault

-- the length of the codestream: that of the header, without its boxes, and those of the slice units, of which the last has the end marker
abbrev pub stream_size : ℕ → List (List ℕ) → ℕ
stream_size header units = header + sum_by length units

-- The answer of a selection: the first of these that holds.
abbrev pub IsReceived : Held → Received → Type 0
-- the header unit is not whole
IsReceived held (received.Missing true slices) = (¬ IsWholeUnit held 0) × (slices ≡ [])
-- it is whole, and its bytes have this first fault
IsReceived held (received.Damaged (damage.Head fault)) = (bytes : List ℕ) × HasBytes held 0 bytes × (header_unit_fault bytes ≡ Some fault)
-- some slices of the header are not whole, and these are they
IsReceived held (received.Missing false slices) = (h : Header) × (size : ℕ) × HasHeader held h size × AreMissing held (slice_count h) slices × (slices ≢ [])
-- all are whole, and this is the first that has a fault
IsReceived held (received.Damaged (damage.Slice slice fault)) =
    (h : Header) × (size : ℕ) × HasHeader held h size × (units : List (List ℕ)) × AreUnits held h units × IsDamagedAt h units slice fault
-- all are in the grammar, and the header states another length than that of header and slices together
IsReceived held (received.Damaged (damage.Lcod stated actual)) =
    (h : Header) × (size : ℕ) × HasHeader held h size × (units : List (List ℕ)) × AreUnits held h units × (content : Content) × AreSpelled h content units
    × (stated ≡ h.lcod) × (stated ≢ 0) × (actual ≡ stream_size size units) × (stated ≢ actual)
-- none of these
IsReceived held (received.Picture picture) =
    (h : Header) × (size : ℕ) × HasHeader held h size × (units : List (List ℕ)) × AreUnits held h units × (content : Content) × AreSpelled h content units
    × ((h.lcod ≡ 0) ⊎ (h.lcod ≡ stream_size size units)) × IsDecodingOf h content picture

-- Stripes

-- The lines of a slice are those of a stripe that was synthesised of what was got.
pub record HasStripeLines (h : Header) (picture : Picture) (v : Actor Carried) (slice : ℕ) : Type 0 where
  pub stripe : Stripe
  pub made : IsMadeBy h v slice stripe
  pub first : stripe.first ≡ line_of h (slice * h.hsl)
  pub end : stripe.end ≡ line_of h ((slice + 1) * h.hsl)
  pub lines : HasLinesOf picture stripe

-- All that was handed is of units that are whole, read by this header. The stripe of each slice was got, and the picture has its lines.
pub record IsOfStripes (held : Held) (h : Header) (picture : Picture) (v : Actor Carried) : Type 0 where
  pub handed : All (IsBlockIn held h) v.stored
  pub got : (slice : ℕ) → slice < slice_count h → 0 < got_in blocks slice v
  pub lines : (slice : ℕ) → slice < slice_count h → HasStripeLines h picture v slice

-- A picture is put together of stripes, which are synthesised of what was handed of the units that are held; any other answer is of none.
abbrev pub IsSynthesised : Held → Received → Actor Carried → Type 0
IsSynthesised held (received.Picture picture) v = (h : Header) × (size : ℕ) × HasHeader held h size × IsOfStripes held h picture v
IsSynthesised held (received.Missing header slices) v = ⊤
IsSynthesised held (received.Damaged damage) v = ⊤
