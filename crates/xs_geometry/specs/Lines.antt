-- Laws of packets and their lines.
use Rattle.std.specs.Prelude.{◌≡◌, ◌↔◌, ℕ, ◌/◌, ◌<◌, ◌≤◌, List, length}
use Rattle.std.specs.List.{Contains}
use Rattle.xs_params.specs.declared.header.Header.{Header}
use Rattle.xs_params.specs.Geometry.{bands_of, band_height_of, lines_of, packet_bands, packets_of, precinct_lines, precincts_of, slice_count}
use Rattle.xs_params.specs.Accepted.{IsGeometry}
use Rattle.xs_geometry.specs.Places.{packet_at}
use Rattle.xs_geometry.specs.SliceLines.{BandLines, HasLine, AreLinesOf}

-- a band has a line, and the line is of this precinct
pub record IsLineOf (h : Header) (precinct band line : ℕ) : Type 0 where
  pub band_there : band < bands_of h
  pub line_there : line < band_height_of h band
  pub from : (lines_of h precinct band).0 ≤ line
  pub to : line < (lines_of h precinct band).1

-- each band of a packet has the packet's line, and the line is of the packet's precinct
abbrev pub PacketsHaveLines : Type 0
PacketsHaveLines = (h : Header) (precinct number band : ℕ) → IsGeometry h → number < length (packets_of h precinct) → Contains (packet_bands h (packet_at h precinct number)) band
    → IsLineOf h precinct band (packet_at h precinct number).line

-- the packet with this number, of this precinct of this slice, has a line of a band
pub record HoldsLine (h : Header) (band line slice precinct number : ℕ) : Type 0 where
  pub slice_there : slice < slice_count h
  pub precinct_in : Contains (precincts_of h slice) precinct
  pub number_there : number < length (packets_of h precinct)
  pub band_in : Contains (packet_bands h (packet_at h precinct number)) band
  pub line_is : (packet_at h precinct number).line ≡ line

-- each line of each band stands in one packet, of one precinct of one slice
abbrev pub LineInOnePacket : Type 0
LineInOnePacket = (h : Header) (band line : ℕ) → IsGeometry h → band < bands_of h → line < band_height_of h band
    → (slice precinct number : ℕ) × HoldsLine h band line slice precinct number
    × ((s p n : ℕ) → HoldsLine h band line s p n → (s ≡ slice) × (p ≡ precinct) × (n ≡ number))

-- the lines of a slice are those of its precincts
abbrev pub SliceHasLines : Type 0
SliceHasLines = (h : Header) (slice : ℕ) (bands : List BandLines) (band line : ℕ) → 1 ≤ h.hsl → AreLinesOf h slice bands
    → HasLine bands band line ↔ ((band < bands_of h) × (line < band_height_of h band) × (line / precinct_lines h band / h.hsl ≡ slice))

-- a slice has the line of each packet of its precincts, in each band of the packet
abbrev pub SliceHasPackets : Type 0
SliceHasPackets = (h : Header) (slice : ℕ) (bands : List BandLines) (precinct number band : ℕ) → IsGeometry h → AreLinesOf h slice bands → Contains (precincts_of h slice) precinct
    → number < length (packets_of h precinct) → Contains (packet_bands h (packet_at h precinct number)) band → HasLine bands band (packet_at h precinct number).line
