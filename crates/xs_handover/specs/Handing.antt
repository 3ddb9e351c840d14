-- What is handed of a slice, and what a pass does with it.
use Rattle.std.specs.Prelude.{◌≡◌, ⊤, ◌⊎◌, ℕ, ◌+◌, ◌<◌, Option, Some, None, MatchOption, List, [], ◌∷◌, All}
use Rattle.std.specs.List.{Contains}
use Rattle.xs_params.specs.declared.header.Header.{Header}
use Rattle.xs_params.specs.Geometry.{slice_count}
use Rattle.xs_reading.specs.Slice.{slice_unit_fault}
use Rattle.xs_lane_core.specs.Places.{places}
use Rattle.xs_lane_core.specs.Machine.{Actor}
use Rattle.xs_handover.specs.declared.piece.Piece.{Piece}
use Rattle.xs_handover.specs.declared.piece.Piece.TheVariants.{Body, Up, Down}
use Rattle.xs_handover.specs.declared.piece.SliceSource.{SliceSource}
use Rattle.xs_handover.specs.declared.fault.HandFault.{HandFault}
use Rattle.xs_handover.specs.declared.fault.HandFault.TheVariants as fault
use Rattle.xs_handover.specs.declared.blocks.Handed.{Handed}
use Rattle.xs_handover.specs.Blocks.{Carried, IsFrom, block_of, stripe_of, block_place}
use Rattle.xs_handover.specs.Decoded.{IsDecoded, IsDecodedBlock}

-- What is handed

-- a slice as it was sent
abbrev pub source_of : Header → ℕ → List ℕ → SliceSource
source_of h slice bytes = record { header = h; slice = slice; bytes = bytes }

-- the value has this piece of a slice, and the rows are those of its bytes
abbrev pub IsSourceBlock : SliceSource → Piece → Carried → Type 0
IsSourceBlock source piece v = (v ≡ Some (block_of source piece)) × IsDecoded (block_of source piece)

-- what is handed of a slice: its rows, and its edges where there is a slice before it and one after it
pub record AreBlocksOf (source : SliceSource) (handed : Handed) : Type 0 where
  pub body : (piece : _) × IsSourceBlock source (Body piece) handed.body
  pub up : MatchOption handed.up (source.slice ≡ 0) (λ v. (edge : _) × IsSourceBlock source (Up edge) v)
  pub down : MatchOption handed.down (source.slice + 1 ≡ slice_count source.header) (λ v. (edge : _) × IsSourceBlock source (Down edge) v)

-- What a pass does

-- the value is stored, or its place was taken before
abbrev pub IsFiled : Actor Carried → Carried → Type 0
IsFiled w v = Contains w.stored v ⊎ Contains w.repeated (stripe_of v, block_place v)

-- The pass v filed these values and no others, and is now w.
pub record FilesAll (values : List Carried) (v w : Actor Carried) : Type 0 where
  pub each : All (IsFiled w) values
  pub only : All (λ (x : Carried). Contains v.stored x ⊎ Contains values x) w.stored
  pub stored : All (Contains w.stored) v.stored
  pub repeated : All (Contains w.repeated) v.repeated
  pub got : w.got ≡ v.got
  pub gone : w.gone ≡ v.gone

-- the value is a block of this slice
abbrev pub IsBlockFrom : SliceSource → Carried → Type 0
IsBlockFrom source v = MatchOption v ⊥ (IsFrom source.header source.slice source.bytes)

-- The pass v filed the rows and the edges of this slice and nothing else, and is now w.
pub record Hands (source : SliceSource) (v w : Actor Carried) : Type 0 where
  pub body : (rows : _) × IsFiled w (Some (block_of source (Body rows)))
  pub up : 0 < source.slice → (edge : _) × IsFiled w (Some (block_of source (Up edge)))
  pub down : source.slice + 1 < slice_count source.header → (edge : _) × IsFiled w (Some (block_of source (Down edge)))
  pub only : All (λ (x : Carried). Contains v.stored x ⊎ IsBlockFrom source x) w.stored
  pub stored : All (Contains w.stored) v.stored
  pub repeated : All (Contains w.repeated) v.repeated
  pub got : w.got ≡ v.got
  pub gone : w.gone ≡ v.gone

-- nothing is handed where the bytes have a fault, or where memory is wanting; the latter is free
abbrev pub IsRefusal : SliceSource → HandFault → Type 0
IsRefusal source (fault.Slice f) = slice_unit_fault source.header source.slice source.bytes ≡ Some f
IsRefusal source fault.Memory = ⊤

-- The value stands in one of so many stripes, and its rows are those of its bytes.
pub record IsFit (stripes : ℕ) (v : Carried) : Type 0 where
  pub stripe : stripe_of v < stripes
  pub place : block_place v < places
  pub decoded : IsDecodedBlock v

-- one value or none
abbrev pub listed : Option Carried → List Carried
listed None = []
listed (Some v) = v ∷ []
