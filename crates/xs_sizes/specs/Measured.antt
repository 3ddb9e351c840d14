-- The sizes of packets and precincts by the sizes that are kept.
use Rattle.std.specs.Prelude.{◌≡◌, ℕ, ◌+◌, ◌<◌, ◌≤◌, Bool, true, false, if◌then◌else◌, List, length, slice_index_or}
use Rattle.std.specs.List.{sum_by}
use Rattle.xs_lists.specs.Bits.{bytes_for}
use Rattle.xs_layout.specs.Geometry.{PacketPlace}
use Rattle.xs_layout.specs.Weighting.{truncation_of}
use Rattle.xs_layout.specs.declared.Candidate.{Candidate}
use Rattle.xs_layout.specs.declared.Weight.{Weight}
use Rattle.xs_params.specs.declared.header.Header.{Header}
use Rattle.xs_params.specs.Rows.{Rows}
use Rattle.xs_params.specs.Geometry.{bands_of, coding_header, packet_bands}
use Rattle.xs_geometry.specs.SliceLines.{BandLines, HasLine, rows_held}
use Rattle.xs_spelling.specs.Counts.{Line}
use Rattle.xs_spelling.specs.Sizes.{count_size, data_size, flag_size, signs_size}
use Rattle.xs_grammar.specs.Packet.{packet_fields}
use Rattle.xs_grammar.specs.Coded.{fields_fit, packet_fits}
use Rattle.xs_grammar.specs.Sizes.{packet_size}
use Rattle.xs_rate.specs.Chosen.{content_at, mode_of}
use Rattle.xs_sizes.specs.Cut.{cut_line}
use Rattle.xs_sizes.specs.Counted.{CountsSlice}
use Rattle.xs_sizes.specs.Precincts.{mode_at, AreAllModes, IsPacketAt}
use Rattle.xs_sizes.specs.declared.counts.SliceCounts.{SliceCounts}
use Rattle.xs_sizes.specs.declared.packets.Coding.{Coding}
use Rattle.xs_sizes.specs.declared.packets.PartBits.{PartBits}
use Rattle.xs_sizes.specs.declared.precincts.PacketBands.{PacketBands}
use Rattle.xs_sizes.specs.declared.precincts.PrecinctCounts.{PrecinctCounts}

-- the truncation of each band at a candidate
abbrev pub AreCutsOf : List Weight → Candidate → List ℕ → Type 0
AreCutsOf weights candidate cuts =
    (band : ℕ) → band < length weights → slice_index_or cuts band 0 ≡ truncation_of candidate.q candidate.r (slice_index_or weights band (record { gain = 0; priority = 0 }))

-- the header by which is coded, with some weights
abbrev pub header_in : Coding → List Weight → Header
header_in coding weights = coding_header coding.geometry.now weights coding.signs_apart coding.quant

-- what is kept is of these rows of a slice, and has the signs where they stand apart
pub record AreKept (h : Header) (counts : SliceCounts) (signs_apart : Bool) (slice : ℕ) (bands : List BandLines) : Type 0 where
  pub counted : CountsSlice h slice bands counts
  pub signs : signs_apart ≡ true → counts.signs ≡ true

abbrev pub IsCoding : ℕ → List BandLines → Coding → Type 0
IsCoding slice bands coding = AreKept coding.geometry.now coding.counts.now coding.signs_apart slice bands

-- the bits of a line in a mode
pub record AreLineBits (h : Header) (rows : Rows) (t mode band line : ℕ) (bits : PartBits) : Type 0 where
  pub flags : bits.flags ≡ flag_size (cut_line h h.quant rows t mode band line)
  pub counts : bits.counts ≡ count_size (cut_line h h.quant rows t mode band line)
  pub numbers : bits.numbers ≡ data_size h.signs_apart (cut_line h h.quant rows t mode band line)
  pub signs : h.signs_apart ≡ true → bits.signs ≡ signs_size (cut_line h h.quant rows t mode band line)

-- a line of a packet with the truncation of its band, in the mode that the band has in the precinct
abbrev pub mode_line : Header → Rows → List ℕ → ℕ → ℕ → ℕ → Line
mode_line h rows cuts precinct line band = cut_line h h.quant rows (slice_index_or cuts band 0) (mode_at h rows precinct band (slice_index_or cuts band 0)) band line

-- the bits of the parts of a packet, with these truncations of the bands
pub record ArePacketBits (h : Header) (rows : Rows) (cuts : List ℕ) (precinct : ℕ) (place : PacketPlace) (bits : PartBits) : Type 0 where
  pub flags : bits.flags ≡ sum_by (λ band. flag_size (mode_line h rows cuts precinct place.line band)) (packet_bands h place)
  pub counts : bits.counts ≡ sum_by (λ band. count_size (mode_line h rows cuts precinct place.line band)) (packet_bands h place)
  pub numbers : bits.numbers ≡ sum_by (λ band. data_size h.signs_apart (mode_line h rows cuts precinct place.line band)) (packet_bands h place)
  pub signs : h.signs_apart ≡ true → bits.signs ≡ sum_by (λ band. signs_size (mode_line h rows cuts precinct place.line band)) (packet_bands h place)

-- the size of a packet at a candidate, and whether the size of each part has room in its field
abbrev pub packet_size_at : Header → Rows → Candidate → ℕ → PacketPlace → ℕ
packet_size_at h rows candidate precinct place = packet_size h (content_at h rows candidate) (mode_of h (content_at h rows candidate) precinct) place

abbrev pub packet_fits_at : Header → Rows → Candidate → ℕ → PacketPlace → Bool
packet_fits_at h rows candidate precinct place = packet_fits h (content_at h rows candidate) (mode_of h (content_at h rows candidate) precinct) place

-- a packet of the slice whose rows these are, at a place of a precinct
pub record IsPacketOf (slice : ℕ) (bands : List BandLines) (precinct : ℕ) (place : PacketPlace) (coding : Coding) (kept : PrecinctCounts) (packet : PacketBands) : Type 0 where
  pub coded : IsCoding slice bands coding
  pub at : IsPacketAt coding.geometry.now place packet
  pub modes : AreAllModes coding.geometry.now (rows_held bands) precinct kept.modes.items
  pub lines : (band : ℕ) → packet.first ≤ band → band < packet.end → HasLine bands band packet.line

-- the modes of the bands in a precinct at a candidate
abbrev pub AreModesAt : Header → Rows → Candidate → ℕ → List ℕ → Type 0
AreModesAt h rows candidate precinct modes = (band : ℕ) → band < bands_of h → slice_index_or modes band 0 ≡ mode_of h (content_at h rows candidate) precinct band

-- the bytes of a packet whose parts have these bits, and whether each part has room in its field
abbrev pub parts_size : Bool → PartBits → ℕ
parts_size apart bits = 5 + bytes_for bits.flags + bytes_for bits.counts + bytes_for bits.numbers + (if apart then bytes_for bits.signs else 0)

abbrev pub parts_fit : Bool → PartBits → Bool
parts_fit apart bits = fields_fit (packet_fields false false (bytes_for bits.numbers) (bytes_for bits.counts) (if apart then bytes_for bits.signs else 0))

-- with these truncations of the bands the rows are coded at a candidate
pub record IsCodedAt (slice : ℕ) (bands : List BandLines) (weights : List Weight) (candidate : Candidate) (coding : Coding) (cuts : List ℕ) : Type 0 where
  pub coded : IsCoding slice bands coding
  pub count : length weights ≡ bands_of coding.geometry.now
  pub truncations : AreCutsOf weights candidate cuts
