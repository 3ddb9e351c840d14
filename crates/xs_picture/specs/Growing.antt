-- A picture that grows as its slices are read.
use Rattle.std.specs.Prelude.{◌≡◌, ℕ, ◌+◌, ◌-◌, ◌*◌, ◌<◌, Option, None, Some, IfSome, MatchOption, List, [], slice_index_or}
use Rattle.xs_params.specs.declared.header.Header.{Header}
use Rattle.xs_params.specs.Accepted.{IsAccepted}
use Rattle.xs_params.specs.Geometry.{slice_count}
use Rattle.xs_params.specs.Picture.{IsPlace, Picture, sample_at}
use Rattle.xs_params.specs.Rows.{Rows}
use Rattle.xs_geometry.specs.SliceLines.{AreLinesOf, BandLines, ShowRows}
use Rattle.xs_decoding.specs.Decoded.{decoded_sample}
use Rattle.xs_stripe.specs.Edges.{AreSmallRows, EdgeRows, IsDownEdge, ShowsDown}
use Rattle.xs_stripe.specs.Stripe.{line_of}
use Rattle.xs_picture.specs.declared.decode.stripes.GrowingPicture.{GrowingPicture}
use Rattle.xs_picture.specs.declared.decode.stripes.Waiting.{Waiting}
use Rattle.xs_picture.specs.StreamRead.{AreSlicesRead}

-- the slice that is read next
abbrev pub next_slice : Option Waiting → ℕ
next_slice None = 0
next_slice (Some w) = w.slice + 1

-- what the slice before hands a slice: the first slice has none
abbrev pub IsEdgeAbove : Header → ℕ → Option EdgeRows → Type 0
IsEdgeAbove h slice above = MatchOption above (slice ≡ 0) (λ edge. (0 < slice) × IsDownEdge h (slice - 1) edge)

-- the rows of a slice, and what is handed to it and by it
pub record IsWaiting (h : Header) (w : Waiting) : Type 0 where
  pub there : w.slice < slice_count h
  pub above : IsEdgeAbove h w.slice w.above
  pub lines : AreLinesOf h w.slice w.body
  pub small : AreSmallRows w.body
  pub down : IsDownEdge h w.slice w.down

-- a picture of the header's shape, and the slice that waits, if one was read
pub record IsGrowing (growing : GrowingPicture) : Type 0 where
  pub accepted : IsAccepted growing.header
  pub shape : growing.picture.shape ≡ growing.header.shape
  pub waiting : IfSome growing.waiting (IsWaiting growing.header)

-- the rows are those of coefficients
pub record ShowsWaiting (h : Header) (rows : Rows) (w : Waiting) : Type 0 where
  pub above : IfSome w.above (λ edge. ShowsDown h (w.slice - 1) edge rows)
  pub body : ShowRows h rows w.body

-- the lines of a picture before a line are decoded from coefficients
abbrev pub AreLinesBefore : Header → Rows → Picture → ℕ → Type 0
AreLinesBefore h rows picture line =
    (component row column : ℕ) → IsPlace h.shape component row column → row < line → sample_at picture component row column ≡ decoded_sample h rows component row column

-- the slice that waits has these coefficients, and the lines of all before it are decoded from them
pub record HoldsSlice (h : Header) (rows : Rows) (picture : Picture) (w : Waiting) : Type 0 where
  pub shown : ShowsWaiting h rows w
  pub down : ShowsDown h w.slice w.down rows
  pub lines : AreLinesBefore h rows picture (line_of h (w.slice * h.hsl))

-- before the first slice these may be any coefficients
abbrev pub HoldsRows : Rows → GrowingPicture → Type 0
HoldsRows rows growing = IfSome growing.waiting (HoldsSlice growing.header rows growing.picture)

-- each of the first slices has these coefficients
abbrev pub ShowEach : Header → Rows → ℕ → List (List BandLines) → Type 0
ShowEach h rows count slices = (slice : ℕ) → slice < count → ShowRows h rows (slice_index_or slices slice [])

-- the first slices were read, and the picture grows from their rows
pub record IsGrownOf (h : Header) (bytes : List ℕ) (start count : ℕ) (growing : GrowingPicture) (place : ℕ) : Type 0 where
  pub slices : List (List BandLines)
  pub read : AreSlicesRead h bytes start count slices place
  pub holds : (rows : Rows) → ShowEach h rows count slices → HoldsRows rows growing
