-- Laws of packets that were stored in lanes.
use Rattle.std.specs.Prelude.{◌↔◌, ℕ, ◌≤◌, List, All}
use Rattle.std.specs.List.{Contains}
use Rattle.xs_lane_core.specs.Machine.{Actor}
use Rattle.xs_lanes.specs.Knowing.{IsChoice, IsWhole}
use Rattle.xs_lanes.specs.Settled.{IsDone}
use Rattle.xs_capture.specs.Offer.{Offer}
use Rattle.xs_capture.specs.Selection.{HasBytes, IsBounded, IsSelection, IsWholeUnit}
use Rattle.xs_stored.specs.Stored.{packets, held_in, AreIn, IsFiled, IsCopy}

-- where each offer is stored, or its place was taken before, and nothing else is stored, what is stored is a selection of the offers
abbrev pub StoredIsSelection : Type 0
StoredIsSelection = (offers : List Offer) (v : Actor Offer) → IsChoice packets v → All (IsFiled v) offers → All (Contains offers) v.stored → IsSelection offers (held_in v.stored)

-- a lane is whole exactly where its unit is
abbrev pub WholeLanesAreUnits : Type 0
WholeLanesAreUnits = (v : Actor Offer) (units unit : ℕ) → IsChoice packets v → AreIn units v.stored → IsWhole packets unit v ↔ IsWholeUnit (held_in v.stored) unit

-- a unit past the last one is not whole, and no place past the last one holds a packet
pub record NothingIsPast : Type 0 where
  pub unit : (stored : List Offer) (units unit : ℕ) → AreIn units stored → units ≤ unit → ¬ IsWholeUnit (held_in stored) unit
  pub place : (stored : List Offer) (units : ℕ) → AreIn units stored → IsBounded (held_in stored)

-- a copy of a unit's packets that were got has the bytes of the unit
abbrev pub CopiesHaveBytes : Type 0
CopiesHaveBytes = (v : Actor Offer) (unit : ℕ) (bytes : List ℕ) → IsDone packets v → IsCopy v.got unit bytes → HasBytes (held_in v.stored) unit bytes
