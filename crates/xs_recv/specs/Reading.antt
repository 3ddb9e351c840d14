-- The slices of a picture as they are handed one after the other, and why that stops.
use Rattle.std.specs.Prelude.{◌≡◌, ◌⊎◌, ⊤, ℕ, ◌+◌, ◌<◌, Bool, true, Option, None, Some, IsSome, IfSome, List, [], All, length, slice_index_or}
use Rattle.std.specs.List.{Contains}
use Rattle.xs_params.specs.declared.header.Header.{Header}
use Rattle.xs_params.specs.Geometry.{slice_count}
use Rattle.xs_faults.specs.declared.SliceFault.{SliceFault}
use Rattle.xs_reading.specs.Slice.{slice_unit_fault}
use Rattle.xs_lane_core.specs.Machine.{Actor}
use Rattle.xs_capture.specs.Selection.{HasBytes, Held}
use Rattle.xs_handover.specs.declared.piece.SliceSource.{SliceSource}
use Rattle.xs_handover.specs.Blocks.{Carried}
use Rattle.xs_handover.specs.Handing.{IsBlockFrom}
use Rattle.xs_recv.specs.declared.activity.SliceCopy.{SliceCopy}
use Rattle.xs_recv.specs.declared.received.Damage.TheVariants as damage
use Rattle.xs_recv.specs.declared.received.Received.{Received}
use Rattle.xs_recv.specs.declared.received.Received.TheVariants as received
use Rattle.xs_recv.specs.declared.received.Stop.{Stop}
use Rattle.xs_recv.specs.declared.received.Stop.TheVariants as stop
use Rattle.xs_recv.specs.Received.{IsReceived, slice_unit, stream_size}
use Rattle.xs_recv.specs.Handed.{AreHanded}
use Rattle.xs_recv.specs.Activities.{HasCopy, IsReadBy}

-- Stops

-- the answer is no picture
abbrev pub IsNoPicture : Received → Type 0
IsNoPicture (received.Picture picture) = ⊥
IsNoPicture (received.Missing header slices) = ⊤
IsNoPicture (received.Damaged damage) = ⊤

-- what is received in place of a picture; want of memory is free
abbrev pub IsStop : Held → Stop → Type 0
IsStop held (stop.Answer answer) = IsReceived held answer × IsNoPicture answer
IsStop held stop.Memory = ⊤

-- the slice is told to be damaged by its first fault; want of memory is free
abbrev pub IsSliceStop : Header → ℕ → List ℕ → Stop → Type 0
IsSliceStop h slice bytes (stop.Answer answer) = (fault : SliceFault) × (answer ≡ received.Damaged (damage.Slice slice fault)) × (slice_unit_fault h slice bytes ≡ Some fault)
IsSliceStop h slice bytes stop.Memory = ⊤

-- Copies

-- The copies of the slices below a number are in order.
pub record AreInOrder (copies : List SliceCopy) (count : ℕ) (places : List (Option SliceCopy)) : Type 0 where
  pub size : length places ≡ count
  pub each : (slice : ℕ) → slice < count → HasCopy copies slice → IsSome (slice_index_or places slice None)
  pub from : (slice : ℕ) → slice < count → IfSome (slice_index_or places slice None) (λ (c : SliceCopy). Contains copies c × (c.slice ≡ slice))

-- Each slice of the header has a copy at its place, and what was read of it is read by the header, where that is trusted.
pub record AreReadable (held : Held) (h : Header) (v : Actor Carried) (trusted : Bool) (places : List (Option SliceCopy)) : Type 0 where
  pub count : length places ≡ slice_count h
  pub there : (slice : ℕ) → slice < slice_count h → IsSome (slice_index_or places slice None)
  pub slice : (slice : ℕ) → slice < slice_count h → IfSome (slice_index_or places slice None) (λ (c : SliceCopy). (c.slice ≡ slice) × HasBytes held (slice + 1) c.bytes × (trusted ≡ true → IsReadBy h v c.slice c.bytes c.reading))

-- Slices that are handed

-- The pass v handed nothing but rows of this slice, and is now w. Nothing is lost that it did before.
pub record HandsOnly (source : SliceSource) (v w : Actor Carried) : Type 0 where
  pub only : All (λ (x : Carried). Contains v.stored x ⊎ IsBlockFrom source x) w.stored
  pub stored : All (Contains w.stored) v.stored
  pub repeated : All (Contains w.repeated) v.repeated
  pub got : w.got ≡ v.got

-- The first slices are handed: the bytes of their units, and their length together with that of the header.
pub record AreHandedUpTo (held : Held) (h : Header) (size count : ℕ) (v : Actor Carried) (total : ℕ) : Type 0 where
  pub units : List (List ℕ)
  pub as_many : length units ≡ count
  pub whole : (slice : ℕ) → slice < count → HasBytes held (slice_unit slice) (slice_index_or units slice [])
  pub handed : (slice : ℕ) → slice < count → AreHanded h slice (slice_index_or units slice []) v
  pub sized : total ≡ stream_size size units
