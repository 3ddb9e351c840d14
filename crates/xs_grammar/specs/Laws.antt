-- Laws of the grammar: what is spelled is one, whatever follows it, a slice speaks of its own part alone, and what is written is spelled.
use Rattle.std.specs.Prelude.{◌≡◌, ℕ, ◌*◌, ◌/◌, ◌<◌, ◌≤◌, IsTrue, List, [], ◌++◌, ◌⊎◌, length, ◌^◌}
use Rattle.std.specs.List.{AllByRecursion}
use Rattle.xs_params.specs.declared.header.Header.{Header}
use Rattle.xs_grammar.specs.Packet.{IsPacket}
use Rattle.xs_layout.specs.Geometry.{groups_of}
use Rattle.xs_params.specs.Geometry.{band_width_of, packet_bands, packets_of, precincts_of, slice_count}
use Rattle.xs_grammar.specs.Precinct.{Content, IsPrecinct, precinct_of}
use Rattle.xs_grammar.specs.Slice.{IsSlice}
use Rattle.xs_params.specs.Markers.{slh}
use Rattle.xs_grammar.specs.Header.{IsHeader}
use Rattle.xs_params.specs.Accepted.{IsAccepted}
use Rattle.xs_grammar.specs.Codestream.{IsCodestream}
use Rattle.xs_grammar.specs.Coded.{slice_bytes, slice_fits, IsWritable, HasRoom, header_bytes, codestream_bytes, IsWritableStream}
use Rattle.xs_lists.specs.Packing.{AreBytes}
use Rattle.xs_lists.specs.Spelling.{upto, BeginsWith}
use Rattle.xs_spelling.specs.Counts.{Line}
use Rattle.xs_spelling.specs.Laws.{SameBefore, SameCounts}

-- two lines with the same counts and numbers
pub record SameLine (line other : Line) : Type 0 where
  pub counts : SameCounts line other
  pub values : (column : ℕ) → column < 4 * line.groups → line.value column ≡ other.value column

-- the bytes of a packet are of one set of lines, by what is known before
abbrev pub OnePacket : Type 0
OnePacket = (h : Header) (bands : List ℕ) (line other : ℕ → Line) (a b y z : List ℕ) → AllByRecursion (λ band. SameBefore (line band) (other band)) bands
    → IsPacket h bands line a → IsPacket h bands other b → a ++ y ≡ b ++ z → (y ≡ z) × AllByRecursion (λ band. SameLine (line band) (other band)) bands

-- two contents that agree on a line of a band
pub record SameBandLine (h : Header) (content other : Content) (band line : ℕ) : Type 0 where
  pub counts : (group : ℕ) → group < groups_of (band_width_of h band) → content.count band line group ≡ other.count band line group
  pub values : (column : ℕ) → column < 4 * groups_of (band_width_of h band) → content.value band line column ≡ other.value band line column

-- two contents that agree on a precinct: on its quantisation and refinement, and on each line of each of its packets
pub record SamePrecinct (h : Header) (content other : Content) (precinct : ℕ) : Type 0 where
  pub q : content.q precinct ≡ other.q precinct
  pub r : content.r precinct ≡ other.r precinct
  pub lines : AllByRecursion (λ place. AllByRecursion (λ band. SameBandLine h content other band place.line) (packet_bands h place)) (packets_of h precinct)

-- the bytes of a slice are of one content, whatever follows them
abbrev pub OneSlice : Type 0
OneSlice = (h : Header) (content other : Content) (slice : ℕ) (a b y z : List ℕ) → h.nly ≤ h.nlx → IsSlice h content slice a → IsSlice h other slice b → a ++ y ≡ b ++ z
    → (y ≡ z) × AllByRecursion (SamePrecinct h content other) (precincts_of h slice)

-- two contents that agree on a slice: on its precincts, and on all lines of theirs
pub record AgreeOnSlice (h : Header) (content other : Content) (slice : ℕ) : Type 0 where
  pub q : (precinct : ℕ) → precinct / h.hsl ≡ slice → content.q precinct ≡ other.q precinct
  pub r : (precinct : ℕ) → precinct / h.hsl ≡ slice → content.r precinct ≡ other.r precinct
  pub count : (band line : ℕ) → precinct_of h band line / h.hsl ≡ slice → content.count band line ≡ other.count band line
  pub value : (band line : ℕ) → precinct_of h band line / h.hsl ≡ slice → content.value band line ≡ other.value band line

-- two contents that agree on the precincts of a slice up to one of them, and on all lines of theirs
pub record AgreeUpTo (h : Header) (content other : Content) (slice last : ℕ) : Type 0 where
  pub q : (precinct : ℕ) → precinct / h.hsl ≡ slice → precinct ≤ last → content.q precinct ≡ other.q precinct
  pub r : (precinct : ℕ) → precinct / h.hsl ≡ slice → precinct ≤ last → content.r precinct ≡ other.r precinct
  pub count : (band line : ℕ) → precinct_of h band line / h.hsl ≡ slice → precinct_of h band line ≤ last → content.count band line ≡ other.count band line
  pub value : (band line : ℕ) → precinct_of h band line / h.hsl ≡ slice → precinct_of h band line ≤ last → content.value band line ≡ other.value band line

-- a precinct speaks of its own part of the content and of what stands before it in its slice, whatever its modes
abbrev pub PrecinctIsLocal : Type 0
PrecinctIsLocal = (h : Header) (content other : Content) (precinct : ℕ) (bytes : List ℕ) → 1 ≤ h.hsl → h.nly ≤ h.nlx → AgreeUpTo h content other (precinct / h.hsl) precinct
    → IsPrecinct h content precinct bytes → IsPrecinct h other precinct bytes

-- a slice speaks of its own part of the content alone, so that slices that were read apart are put together
abbrev pub SliceIsLocal : Type 0
SliceIsLocal = (h : Header) (content other : Content) (slice : ℕ) (bytes : List ℕ) → 1 ≤ h.hsl → h.nly ≤ h.nlx → AgreeOnSlice h content other slice
    → IsSlice h content slice bytes → IsSlice h other slice bytes

-- what may follow a header: nothing, or a slice
abbrev pub FollowsHeader : List ℕ → Type 0
FollowsHeader bytes = (bytes ≡ []) ⊎ BeginsWith bytes slh

-- bytes are of one header
abbrev pub OneHeader : Type 0
OneHeader = (h other : Header) (a b y z : List ℕ) → IsHeader h a → IsHeader other b → FollowsHeader y → FollowsHeader z → a ++ y ≡ b ++ z → (y ≡ z) × (h ≡ other)

-- bytes are of one codestream: of one header, and of one content where its slices speak of it
abbrev pub OneCodestream : Type 0
OneCodestream = (h other : Header) (content contents : Content) (a b y z : List ℕ) → IsCodestream h content a → IsCodestream other contents b → a ++ y ≡ b ++ z
    → (y ≡ z) × (h ≡ other) × AllByRecursion (λ slice. AllByRecursion (SamePrecinct h content contents) (precincts_of h slice)) (upto (slice_count h))

-- what is written of a slice is a slice of its content, where its sizes have room in their fields
abbrev pub WrittenSlice : Type 0
WrittenSlice = (h : Header) (content : Content) (mode : ℕ → ℕ → ℕ) (filler : ℕ → ℕ) (slice : ℕ) → h.run_mode ≡ 0 → slice < 2 ^ 16 → IsWritable h content mode slice → IsTrue (slice_fits h content mode filler slice)
    → IsSlice h content slice (slice_bytes h content mode filler slice)

-- what is written of a header is a header of it
abbrev pub WrittenHeader : Type 0
WrittenHeader = (h : Header) → IsAccepted h → HasRoom h → IsHeader h (header_bytes h)

-- what is written of a codestream is one of its header and its content
abbrev pub WrittenCodestream : Type 0
WrittenCodestream = (h : Header) (content : Content) (mode : ℕ → ℕ → ℕ) (filler : ℕ → ℕ) → IsAccepted h → HasRoom h → IsWritableStream h content mode filler
    → (h.lcod ≡ 0) ⊎ (h.lcod ≡ length (codestream_bytes h content mode filler)) → IsCodestream h content (codestream_bytes h content mode filler)

-- what is written are bytes, whatever the content
abbrev pub WrittenBytes : Type 0
WrittenBytes = (h : Header) (content : Content) (mode : ℕ → ℕ → ℕ) (filler : ℕ → ℕ) → AreBytes (codestream_bytes h content mode filler)

-- what was written of a slice is read as its content alone, whatever follows it
abbrev pub SliceReadAgain : Type 0
SliceReadAgain = (h : Header) (content other : Content) (mode : ℕ → ℕ → ℕ) (filler : ℕ → ℕ) (slice : ℕ) (bytes y z : List ℕ) → h.run_mode ≡ 0 → h.nly ≤ h.nlx → slice < 2 ^ 16
    → IsWritable h content mode slice → IsTrue (slice_fits h content mode filler slice)
    → IsSlice h other slice bytes → slice_bytes h content mode filler slice ++ y ≡ bytes ++ z → (y ≡ z) × AllByRecursion (SamePrecinct h content other) (precincts_of h slice)
