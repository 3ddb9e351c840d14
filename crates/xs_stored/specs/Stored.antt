-- The packets that were stored in lanes, as a selection of offers.
use Rattle.std.specs.Prelude.{◌≡◌, ℕ, ◌<◌, ◌⊎◌, ◌&&◌, nat_eq, if◌then◌else◌, Option, Some, None, List, [], ◌∷◌, All, flat_map}
use Rattle.std.specs.List.{Contains}
use Rattle.xs_lane_core.specs.Machine.{Placing, Actor}
use Rattle.xs_lanes.specs.Filing.{placing}
use Rattle.xs_lanes.specs.Claiming.{IsRun}
use Rattle.xs_capture.specs.Offer.{Offer, unit_places}
use Rattle.xs_capture.specs.Selection.{Held}

-- a packet's lane is its unit
abbrev pub packets : Placing Offer
packets = placing (λ (p : Offer). p.unit) (λ (p : Offer). p.place) (λ (p : Offer). p.last)

-- what is held at each unit and place, where these packets were stored
abbrev pub held_in : List Offer → Held
held_in [] unit place = None
held_in (p ∷ ps) unit place = if nat_eq p.unit unit && nat_eq p.place place then Some p else held_in ps unit place

-- the packets are of so many units, and of places that there are
abbrev pub AreIn : ℕ → List Offer → Type 0
AreIn units stored = All (λ (p : Offer). (p.unit < units) × (p.place < unit_places)) stored

-- the packet is stored, or its place was taken before
abbrev pub IsFiled : Actor Offer → Offer → Type 0
IsFiled v p = Contains v.stored p ⊎ Contains v.repeated (p.unit, p.place)

-- the bytes of packets, one after the other
abbrev pub joined_bytes : List Offer → List ℕ
joined_bytes ps = flat_map (λ (p : Offer). p.bytes) ps

-- The bytes are those of packets of the unit from its first place to its closing one, all of which were got.
pub record IsCopy (got : List Offer) (unit : ℕ) (bytes : List ℕ) : Type 0 where
  pub values : List Offer
  pub run : IsRun packets unit 0 values
  pub from : All (Contains got) values
  pub joins : bytes ≡ joined_bytes values
