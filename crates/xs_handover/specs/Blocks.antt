-- Blocks of rows, and where they stand in the lanes. A lane is a stripe, and what stands in it are the rows that the stripe needs.
use Rattle.std.specs.Prelude.{◌≡◌, ℕ, ◌+◌, ◌-◌, Bool, true, false, nat_eq, nat_lt, if◌then◌else◌, Option, Some, None, MatchOption, List}
use Rattle.xs_params.specs.declared.header.Header.{Header}
use Rattle.xs_params.specs.Geometry.{slice_count}
use Rattle.xs_lane_core.specs.Machine.{Placing}
use Rattle.xs_lanes.specs.Filing.{placing}
use Rattle.xs_handover.specs.declared.piece.Piece.{Piece}
use Rattle.xs_handover.specs.declared.piece.Piece.TheVariants.{Body, Up, Down}
use Rattle.xs_handover.specs.declared.piece.SliceSource.{SliceSource}
use Rattle.xs_handover.specs.Headers.{HaveSameLayout}

-- a slice that was read, by its header, its number and its bytes, and those of its rows that one stripe needs
pub record Block : Type 0 where
  pub header : Header
  pub slice : ℕ
  pub bytes : List ℕ
  pub piece : Piece

abbrev pub block_of : SliceSource → Piece → Block
block_of source piece = record { header = source.header; slice = source.slice; bytes = source.bytes; piece = piece }

-- what contracts see of a value of the lanes; there is one without rows
abbrev pub Carried : Type 0
Carried = Option Block

-- where a value without rows would stand: there is no such lane, and no such place
abbrev pub nowhere : ℕ
nowhere = 4294967295

-- the stripe for which rows of a slice are: its own, that before, or that after
abbrev pub stripe_for : ℕ → Piece → ℕ
stripe_for slice (Body body) = slice
stripe_for slice (Up edge) = slice - 1
stripe_for slice (Down edge) = slice + 1

-- the place: a stripe's own rows, then the edge from above, then the edge from below; the first stripe has none from above
abbrev pub place_for : ℕ → Piece → ℕ
place_for slice (Body body) = 0
place_for slice (Up edge) = if nat_lt 1 slice then 2 else 1
place_for slice (Down edge) = 1

-- whether nothing follows it: where there are so many slices, the last stripe has no edge from below
abbrev pub is_last_for : ℕ → ℕ → Piece → Bool
is_last_for slices slice (Body body) = nat_eq slices 1
is_last_for slices slice (Up edge) = true
is_last_for slices slice (Down edge) = nat_eq (slice + 2) slices

abbrev pub stripe_of : Carried → ℕ
stripe_of None = nowhere
stripe_of (Some b) = stripe_for b.slice b.piece

abbrev pub block_place : Carried → ℕ
block_place None = nowhere
block_place (Some b) = place_for b.slice b.piece

abbrev pub closes_stripe : Carried → Bool
closes_stripe None = false
closes_stripe (Some b) = is_last_for (slice_count b.header) b.slice b.piece

abbrev pub blocks : Placing Carried
blocks = placing stripe_of block_place closes_stripe

-- the block is of this header, this slice and these bytes
pub record IsFrom (h : Header) (slice : ℕ) (bytes : List ℕ) (b : Block) : Type 0 where
  pub header : b.header ≡ h
  pub slice_is : b.slice ≡ slice
  pub bytes_are : b.bytes ≡ bytes

-- it has this piece of this slice, and its header cuts a picture as this one does
pub record HasPiece (h : Header) (slice : ℕ) (piece : Piece) (b : Block) : Type 0 where
  pub layout : HaveSameLayout b.header h
  pub slice_is : b.slice ≡ slice
  pub piece_is : b.piece ≡ piece

abbrev pub Carries : Header → ℕ → Piece → Carried → Type 0
Carries h slice piece v = MatchOption v ⊥ (HasPiece h slice piece)
