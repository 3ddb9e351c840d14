-- The blocks of a slice that was read have the rows that its bytes give.
use Rattle.std.proofs.Common.{◌≡◌, ℕ, ◌+◌, ◌<◌, List, ap, ◌∙◌}
use Rattle.std.specs.Bool.{MatchBool}
use Rattle.std.specs.Prelude.{Bool, true, false, nat_eq, Some, ◌++◌}
use Rattle.xs_params.specs.declared.header.Header.{Header}
use Rattle.xs_params.specs.Accepted.{IsAccepted}
use Rattle.xs_params.specs.Geometry.{slice_count}
use Rattle.xs_params.specs.Markers.{eoc}
use Rattle.xs_params.specs.Rows.{Rows}
use Rattle.xs_geometry.specs.SliceLines.{BandLines, ShowRows}
use Rattle.xs_grammar.specs.Slice.{IsSlice}
use Rattle.xs_reading.specs.Rows.{dequantised_rows}
use Rattle.xs_magnitudes.proofs.Small.{spelled_small}
use Rattle.xs_slice_read.specs.Unit.{IsUnitRead}
use Rattle.xs_stripe.specs.Edges.{AreSmallRows, EdgeRows, IsDownEdge, IsUpEdge, ShowsDown, ShowsUp}
use Rattle.xs_handover.specs.declared.piece.Piece.{Piece}
use Rattle.xs_handover.specs.declared.piece.Piece.TheVariants.{Body, Up, Down}
use Rattle.xs_handover.specs.declared.piece.SliceSource.{SliceSource}
use Rattle.xs_handover.specs.Blocks.{Carried, block_of}
use Rattle.xs_handover.specs.Decoded.{IsDecoded}
use Rattle.xs_handover.specs.Handing.{IsSourceBlock}

-- the coefficients of a unit are small
pub unit_small : (h : Header) (slice : ℕ) (rows : List BandLines) (bytes : List ℕ) → IsAccepted h → IsUnitRead h slice rows bytes → AreSmallRows rows
unit_small h slice rows bytes accepted read = by (nat_eq (slice + 1) (slice_count h)) read.spelled
  where
    by : (last : Bool) → MatchBool last ((front : List ℕ) × (bytes ≡ front ++ eoc) × IsSlice h read.content slice front) (IsSlice h read.content slice bytes) → AreSmallRows rows
    by true spelled = spelled_small h read.content slice spelled.0 rows accepted spelled.2 read.lines read.shown
    by false spelled = spelled_small h read.content slice bytes rows accepted spelled read.lines read.shown

pub decoded_body : (source : SliceSource) (rows : List BandLines) → IsAccepted source.header → source.slice < slice_count source.header → IsUnitRead source.header source.slice rows source.bytes → IsDecoded (block_of source (Body rows))
decoded_body source rows accepted there read = record {
  accepted = accepted;
  there = there;
  no_fault = read.no_fault;
  content = read.content;
  spelled = read.spelled;
  piece_of = (read.lines, unit_small source.header source.slice rows source.bytes accepted read);
  shown = read.shown;
}

pub decoded_up : (source : SliceSource) (rows : List BandLines) (edge : EdgeRows) → IsAccepted source.header → source.slice < slice_count source.header → IsUnitRead source.header source.slice rows source.bytes
    → 0 < source.slice → IsUpEdge source.header source.slice edge → ((shown : Rows) → ShowRows source.header shown rows → ShowsUp source.header source.slice edge shown) → IsDecoded (block_of source (Up edge))
decoded_up source rows edge accepted there read before is shows = record {
  accepted = accepted;
  there = there;
  no_fault = read.no_fault;
  content = read.content;
  spelled = read.spelled;
  piece_of = (before, is);
  shown = shows (dequantised_rows source.header read.content) read.shown;
}

pub decoded_down : (source : SliceSource) (rows : List BandLines) (edge : EdgeRows) → IsAccepted source.header → source.slice < slice_count source.header → IsUnitRead source.header source.slice rows source.bytes
    → source.slice + 1 < slice_count source.header → IsDownEdge source.header source.slice edge → ((shown : Rows) → ShowRows source.header shown rows → ShowsDown source.header source.slice edge shown) → IsDecoded (block_of source (Down edge))
decoded_down source rows edge accepted there read after is shows = record {
  accepted = accepted;
  there = there;
  no_fault = read.no_fault;
  content = read.content;
  spelled = read.spelled;
  piece_of = (after, is);
  shown = shows (dequantised_rows source.header read.content) read.shown;
}

-- the block of a slice that is this one
pub block_is : (source other : SliceSource) (piece : Piece) (v : Carried) → other ≡ source → v ≡ Some (block_of other piece) → IsDecoded (block_of source piece) → IsSourceBlock source piece v
block_is source other piece v same is decoded = (is ∙ ap (λ s. Some (block_of s piece)) same, decoded)
