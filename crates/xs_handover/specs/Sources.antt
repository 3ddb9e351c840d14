-- The pieces of which a stripe is synthesised, in the list of the blocks that were got of it.
use Rattle.std.specs.Prelude.{◌≡◌, ℕ, ◌+◌, ◌-◌, ◌<◌, None, MatchOption, List, nat_lt, if◌then◌else◌, slice_index_or}
use Rattle.xs_params.specs.declared.header.Header.{Header}
use Rattle.xs_params.specs.Geometry.{slice_count}
use Rattle.xs_lanes.specs.Claiming.{IsRun}
use Rattle.xs_handover.specs.declared.piece.Piece.{Piece}
use Rattle.xs_handover.specs.declared.piece.Piece.TheVariants.{Body, Up, Down}
use Rattle.xs_handover.specs.declared.pieces.Pieces.{Pieces}
use Rattle.xs_handover.specs.Blocks.{Carried, Carries, blocks}
use Rattle.xs_handover.specs.Decoded.{IsDecodedBlock}
use Rattle.xs_handover.specs.Answers.{AreBy}

-- the blocks are those of the stripe, and were handed by this header
abbrev pub AreOf : Header → ℕ → List Carried → Type 0
AreOf h slice values = IsRun blocks slice 0 values × AreBy h values

-- the value at a place of the list
abbrev pub value_at : List Carried → ℕ → Carried
value_at values place = slice_index_or values place None

-- where the edge from below stands
abbrev pub place_below : ℕ → ℕ
place_below slice = if nat_lt 0 slice then 2 else 1

-- the value at the place has this piece of a slice, by a header that cuts a picture as this one does, and its rows are those of its bytes
abbrev pub HasAt : List Carried → ℕ → Header → ℕ → Piece → Type 0
HasAt values place h slice piece = Carries h slice piece (value_at values place) × IsDecodedBlock (value_at values place)

-- the pieces are the stripe's own rows and the edges of the slices beside it, as they are there
pub record ArePieces (h : Header) (slice : ℕ) (values : List Carried) (p : Pieces) : Type 0 where
  pub body : HasAt values 0 h slice (Body p.body.now)
  pub above : MatchOption p.above (slice ≡ 0) (λ e. (0 < slice) × HasAt values 1 h (slice - 1) (Down e.now))
  pub below : MatchOption p.below (slice + 1 ≡ slice_count h) (λ e. (slice + 1 < slice_count h) × HasAt values (place_below slice) h (slice + 1) (Up e.now))
