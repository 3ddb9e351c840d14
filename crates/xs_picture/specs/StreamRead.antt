-- A codestream as it is read: its slices, and the rows of coefficients that stand for them.
use Rattle.std.specs.Prelude.{◌≡◌, ℕ, ◌+◌, ◌/◌, ◌<◌, not, nat_lt, Option, None, List, [], ◌∷◌, ◌++◌, length, take, drop, slice_index_or}
use Rattle.std.specs.List.{AllByRecursion}
use Rattle.xs_lists.specs.First.{when, first_some}
use Rattle.xs_lists.specs.Spelling.{upto, SpellsEach}
use Rattle.xs_params.specs.declared.header.Header.{Header}
use Rattle.xs_params.specs.Geometry.{bands_of, band_height_of}
use Rattle.xs_params.specs.Markers.{eoc}
use Rattle.xs_params.specs.Picture.{Picture}
use Rattle.xs_faults.specs.declared.StreamFault.{StreamFault}
use Rattle.xs_faults.specs.declared.StreamFault.TheVariants as fault
use Rattle.xs_grammar.specs.Precinct.{Content}
use Rattle.xs_grammar.specs.Slice.{IsSlice}
use Rattle.xs_grammar.specs.Codestream.{IsCodestreamFront}
use Rattle.xs_geometry.specs.SliceLines.{BandLines, slice_height, AreLinesOf}
use Rattle.xs_markers.specs.Reading.{header_at}
use Rattle.xs_magnitudes.specs.Small.{HaveSmallRows}
use Rattle.xs_reading.specs.Rows.{dequantised_rows}
use Rattle.xs_reading.specs.Slice.{is_same, slice_fault}
use Rattle.xs_reading.specs.Stream.{slice_start}
use Rattle.xs_decoding.specs.Decoded.{IsDecodingOf}
use Rattle.xs_picture.specs.Coefs.{Coefs, AreCoefs, rows_of_slices}
use Rattle.xs_picture.specs.Faults.{stream_fault, stream_end}

-- the first slices after the header have no fault and end at a place, and the rows show a content that they spell
pub record AreSlicesRead (h : Header) (bytes : List ℕ) (start count : ℕ) (slices : List (List BandLines)) (place : ℕ) : Type 0 where
  pub no_fault : AllByRecursion (λ slice. slice_fault h slice (drop (slice_start h bytes start slice) bytes) ≡ None) (upto count)
  pub ends : slice_start h bytes start count ≡ place
  pub content : Content
  pub front : List ℕ
  pub joined : drop start bytes ≡ front ++ drop place bytes
  pub spelled : SpellsEach (IsSlice h content) (upto count) front
  pub number : length slices ≡ count
  pub lines : (slice : ℕ) → slice < count → AreLinesOf h slice (slice_index_or slices slice [])
  pub small : (slice : ℕ) → slice < count → HaveSmallRows (slice_index_or slices slice [])
  pub shown : (band line column : ℕ) → band < bands_of h → line < band_height_of h band → line / slice_height h band < count
      → rows_of_slices h slices band line column ≡ dequantised_rows h content band line column

-- the fault of bytes that do not have the end marker at a place
abbrev pub eoc_fault : List ℕ → ℕ → Option StreamFault
eoc_fault bytes place =
    first_some (when (nat_lt (length bytes) (place + 2)) (fault.Cut (length bytes)) ∷ when (not (is_same (take 2 (drop place bytes)) eoc)) (fault.End place) ∷ [])

-- the bytes begin with a codestream, which has no fault and ends at n, of a content that the coefficients show
pub record IsStreamRead (coefs : Coefs) (bytes : List ℕ) (n : ℕ) : Type 0 where
  pub no_fault : stream_fault bytes ≡ None
  pub ends : stream_end bytes ≡ n
  pub header : header_at bytes ≡ coefs.header
  pub content : Content
  pub spelled : IsCodestreamFront coefs.header content bytes n
  pub whole : AreCoefs coefs
  pub shown : (band line column : ℕ) → band < bands_of coefs.header → line < band_height_of coefs.header band
      → rows_of_slices coefs.header coefs.slices band line column ≡ dequantised_rows coefs.header content band line column

-- and the picture is the decoding of its content
pub record IsPictureRead (picture : Picture) (bytes : List ℕ) (n : ℕ) : Type 0 where
  pub no_fault : stream_fault bytes ≡ None
  pub ends : stream_end bytes ≡ n
  pub content : Content
  pub spelled : IsCodestreamFront (header_at bytes) content bytes n
  pub decoded : IsDecodingOf (header_at bytes) content picture
