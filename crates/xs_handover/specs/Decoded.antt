-- What the rows of a block are: those that the bytes of its slice give.
use Rattle.std.specs.Prelude.{◌≡◌, ℕ, ◌+◌, ◌<◌, ◌≤◌, None, IfSome, MatchOption, List}
use Rattle.xs_params.specs.declared.header.Header.{Header}
use Rattle.xs_params.specs.Accepted.{IsAccepted}
use Rattle.xs_params.specs.Geometry.{bands_of, band_width_of, slice_count}
use Rattle.xs_params.specs.Rows.{Rows}
use Rattle.xs_geometry.specs.SliceLines.{AreLinesOf, ShowRows, first_line_of, end_line_of}
use Rattle.xs_grammar.specs.Precinct.{Content}
use Rattle.xs_grammar.specs.Slice.{IsSliceUnit}
use Rattle.xs_reading.specs.Rows.{dequantised_rows}
use Rattle.xs_reading.specs.Slice.{slice_unit_fault}
use Rattle.xs_stripe.specs.Edges.{AreSmallRows, IsUpEdge, IsDownEdge, ShowsUp, ShowsDown}
use Rattle.xs_handover.specs.declared.piece.Piece.{Piece}
use Rattle.xs_handover.specs.declared.piece.Piece.TheVariants.{Body, Up, Down}
use Rattle.xs_handover.specs.Blocks.{Block, Carried}

-- The piece is there in a picture of this header: an edge goes to a slice that is there.
abbrev pub IsPieceOf : Header → ℕ → Piece → Type 0
IsPieceOf h slice (Body body) = AreLinesOf h slice body × AreSmallRows body
IsPieceOf h slice (Up edge) = (0 < slice) × IsUpEdge h slice edge
IsPieceOf h slice (Down edge) = (slice + 1 < slice_count h) × IsDownEdge h slice edge

-- its rows are these coefficients
abbrev pub ShowsPiece : Header → ℕ → Rows → Piece → Type 0
ShowsPiece h slice rows (Body body) = ShowRows h rows body
ShowsPiece h slice rows (Up edge) = ShowsUp h slice edge rows
ShowsPiece h slice rows (Down edge) = ShowsDown h slice edge rows

-- The bytes are what is sent of the slice, 'Codestream layout', and the rows are those of their content.
pub record IsDecoded (b : Block) : Type 0 where
  pub accepted : IsAccepted b.header
  pub there : b.slice < slice_count b.header
  pub no_fault : slice_unit_fault b.header b.slice b.bytes ≡ None
  pub content : Content
  pub spelled : IsSliceUnit b.header content b.slice b.bytes
  pub piece_of : IsPieceOf b.header b.slice b.piece
  pub shown : ShowsPiece b.header b.slice (dequantised_rows b.header content) b.piece

-- the value has rows, and they are so
abbrev pub IsDecodedBlock : Carried → Type 0
IsDecodedBlock v = MatchOption v ⊥ IsDecoded

-- if it has rows, they are so
abbrev pub IsDecodedIf : Carried → Type 0
IsDecodedIf v = IfSome v IsDecoded

-- the line of the band is one of the slice's
pub record IsLineIn (h : Header) (slice band line : ℕ) : Type 0 where
  pub band_there : band < bands_of h
  pub from : first_line_of h slice band ≤ line
  pub below : line < end_line_of h slice band

-- two rows of coefficients are the same in a slice
abbrev pub AgreeIn : Header → ℕ → Rows → Rows → Type 0
AgreeIn h slice rows other = (band line column : ℕ) → IsLineIn h slice band line → column < band_width_of h band → rows band line column ≡ other band line column

-- whatever content the bytes are sent of, in the slice its coefficients are these rows
abbrev pub AreRowsOf : Header → ℕ → List ℕ → Rows → Type 0
AreRowsOf h slice bytes rows = (content : Content) → IsSliceUnit h content slice bytes → AgreeIn h slice rows (dequantised_rows h content)

-- the same of the bytes of a block, in its slice
abbrev pub AreRowsAt : Header → Rows → Carried → Type 0
AreRowsAt h rows v = IfSome v (λ (b : Block). AreRowsOf h b.slice b.bytes rows)
