-- Bytes have no fault exactly where a content fits them, and what is read is that content.
use Rattle.std.specs.Prelude.{◌≡◌, ◌↔◌, ℕ, ◌/◌, ◌<◌, ◌≤◌, None, List, ◌++◌, length, map, take, drop}
use Rattle.std.specs.List.{AllByRecursion, range_with_len}
use Rattle.xs_lists.specs.Packing.{AreBytes}
use Rattle.xs_params.specs.declared.header.Header.{Header}
use Rattle.xs_spelling.specs.Counts.{Line}
use Rattle.xs_spelling.specs.Laws.{SameBefore}
use Rattle.xs_spelling.specs.ReadingLaws.{IsPredicted}
use Rattle.xs_params.specs.Geometry.{precincts_of, slice_count}
use Rattle.xs_grammar.specs.Packet.{IsPacket}
use Rattle.xs_grammar.specs.Precinct.{Content, IsPrecinct, precinct_of}
use Rattle.xs_grammar.specs.Slice.{IsSlice, IsSliceFront, IsSliceUnit}
use Rattle.xs_params.specs.Accepted.{IsAccepted}
use Rattle.xs_grammar.specs.Header.{IsHeader}
use Rattle.xs_grammar.specs.Codestream.{IsCodestreamFront}
use Rattle.xs_grammar.specs.Laws.{FollowsHeader, SameLine, SamePrecinct}
use Rattle.xs_reading.specs.Packet.{packet_end, packet_fault, packet_lines}
use Rattle.xs_reading.specs.Precinct.{precinct_end, precinct_fault, with_precinct}
use Rattle.xs_reading.specs.Slice.{slice_content, slice_end, slice_fault, slice_unit_fault, whole_slice_fault}
use Rattle.xs_reading.specs.Stream.{body_fault}

-- Packets

-- the lines of a list are those of some bands
abbrev pub AreBandLines : (ℕ → Line) → List ℕ → List Line → Type 0
AreBandLines line bands lines = map line bands ≡ lines

-- what is known of each of the lines before they are read
abbrev pub ArePredicted : List Line → Type 0
ArePredicted lines = AllByRecursion IsPredicted lines

-- without a fault the bytes up to the packet's end are a packet of the lines that they hold; bands that follow each other are all different, so that each
-- has its own flags
abbrev pub PacketSpelled : Type 0
PacketSpelled = (h : Header) (packet first count : ℕ) (line : ℕ → Line) (lines : List Line) (bytes : List ℕ) → AreBytes bytes → ArePredicted lines → packet_fault h packet lines bytes ≡ None
    → AreBandLines line (range_with_len first count) (packet_lines h lines bytes)
    → (packet_end h lines bytes ≤ length bytes) × IsPacket h (range_with_len first count) line (take (packet_end h lines bytes) bytes)

-- the packet of some lines has no fault, whatever follows it, and is read as those lines
pub record IsPacketKnown (h : Header) (packet : ℕ) (bands : List ℕ) (line : ℕ → Line) (lines : List Line) (part rest : List ℕ) : Type 0 where
  pub no_fault : packet_fault h packet lines (part ++ rest) ≡ None
  pub ends : packet_end h lines (part ++ rest) ≡ length part
  pub same : (other : ℕ → Line) → AreBandLines other bands (packet_lines h lines (part ++ rest)) → AllByRecursion (λ band. SameLine (line band) (other band)) bands

abbrev pub PacketKnown : Type 0
PacketKnown = (h : Header) (packet : ℕ) (bands : List ℕ) (line known : ℕ → Line) (part rest : List ℕ) → AllByRecursion (λ band. SameBefore (line band) (known band)) bands
    → IsPacket h bands line part → IsPacketKnown h packet bands line (map known bands) part rest

-- Precincts

-- the content before a precinct is in range: no count is over 15
abbrev pub HasRange : Header → Content → Type 0
HasRange h content = (band line group : ℕ) → content.count band line group ≤ 15

-- without a fault the precinct at the front of the bytes is one of the content with it, and nothing else in the content has changed
pub record IsPrecinctSpelled (h : Header) (precinct : ℕ) (content : Content) (bytes : List ℕ) : Type 0 where
  pub within : precinct_end h bytes ≤ length bytes
  pub spelled : IsPrecinct h (with_precinct h precinct content bytes) precinct (take (precinct_end h bytes) bytes)
  pub range : HasRange h (with_precinct h precinct content bytes)

abbrev pub PrecinctSpelled : Type 0
PrecinctSpelled = (h : Header) (precinct : ℕ) (content : Content) (bytes : List ℕ) → IsAccepted h → AreBytes bytes → HasRange h content → precinct_fault h precinct content bytes ≡ None
    → IsPrecinctSpelled h precinct content bytes

-- what a precinct leaves of the content before it: all that is not of the precinct, whatever the bytes are
pub record IsPrecinctElsewhere (h : Header) (precinct : ℕ) (content : Content) (bytes : List ℕ) : Type 0 where
  pub q : (other : ℕ) → (other ≡ precinct → ⊥) → (with_precinct h precinct content bytes).q other ≡ content.q other
  pub r : (other : ℕ) → (other ≡ precinct → ⊥) → (with_precinct h precinct content bytes).r other ≡ content.r other
  pub count : (band line : ℕ) → (precinct_of h band line ≡ precinct → ⊥) → (with_precinct h precinct content bytes).count band line ≡ content.count band line
  pub value : (band line : ℕ) → (precinct_of h band line ≡ precinct → ⊥) → (with_precinct h precinct content bytes).value band line ≡ content.value band line

abbrev pub PrecinctElsewhere : Type 0
PrecinctElsewhere = (h : Header) (precinct : ℕ) (content : Content) (bytes : List ℕ) → h.nly ≤ h.nlx → IsPrecinctElsewhere h precinct content bytes

-- a precinct of a content has no fault, whatever follows it, where what was read before is of the content; and the content is what is read
pub record IsPrecinctKnown (h : Header) (precinct : ℕ) (content before : Content) (part rest : List ℕ) : Type 0 where
  pub no_fault : precinct_fault h precinct before (part ++ rest) ≡ None
  pub ends : precinct_end h (part ++ rest) ≡ length part
  pub same : SamePrecinct h content (with_precinct h precinct before (part ++ rest)) precinct

-- the contents agree on the precincts of the slice before this one
abbrev pub AgreeBefore : Header → Content → Content → ℕ → Type 0
AgreeBefore h content other precinct = (earlier : ℕ) → earlier / h.hsl ≡ precinct / h.hsl → earlier < precinct → SamePrecinct h content other earlier

abbrev pub PrecinctKnown : Type 0
PrecinctKnown = (h : Header) (precinct : ℕ) (content before : Content) (part rest : List ℕ) → IsAccepted h → HasRange h before → AgreeBefore h content before precinct → IsPrecinct h content precinct part
    → IsPrecinctKnown h precinct content before part rest

-- Slices

-- a slice has no fault exactly where a content fits the front of the bytes, and that content is what is read
pub record IsSliceKnown (h : Header) (slice : ℕ) (bytes : List ℕ) : Type 0 where
  pub spelled : slice_fault h slice bytes ≡ None → IsSliceFront h (slice_content h slice bytes) slice bytes (slice_end h slice bytes)
  pub no_fault : (content : Content) (n : ℕ) → IsSliceFront h content slice bytes n
      → (slice_fault h slice bytes ≡ None) × (slice_end h slice bytes ≡ n) × AllByRecursion (SamePrecinct h content (slice_content h slice bytes)) (precincts_of h slice)
  -- so with bytes that are the slice and nothing more, and with those that are sent of it
  pub whole : (whole_slice_fault h slice bytes ≡ None) ↔ ((content : Content) × IsSlice h content slice bytes)
  pub unit : (slice_unit_fault h slice bytes ≡ None) ↔ ((content : Content) × IsSliceUnit h content slice bytes)

abbrev pub SlicesKnown : Type 0
SlicesKnown = (h : Header) (slice : ℕ) (bytes : List ℕ) → IsAccepted h → slice < slice_count h → AreBytes bytes → IsSliceKnown h slice bytes

-- Codestreams

-- after a header, which ends where a slice begins or with the bytes, a codestream has no fault exactly where a content fits
abbrev pub StreamKnown : Type 0
StreamKnown = (h : Header) (bytes : List ℕ) (place : ℕ) → AreBytes bytes → place ≤ length bytes → IsHeader h (take place bytes) → FollowsHeader (drop place bytes)
    → (body_fault h bytes place ≡ None) ↔ ((content : Content) × (n : ℕ) × IsCodestreamFront h content bytes n)
