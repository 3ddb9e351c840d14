-- What is kept of a precinct: where its packets stand, and the modes of its bands at each truncation.
use Rattle.std.specs.Prelude.{◌≡◌, ℕ, ◌+◌, ◌-◌, ◌<◌, ◌≤◌, List, length, slice_index_or}
use Rattle.std.specs.List.{sum_by, range_with_len}
use Rattle.xs_layout.specs.Geometry.{PacketPlace}
use Rattle.xs_params.specs.declared.header.Header.{Header}
use Rattle.xs_params.specs.Rows.{Rows}
use Rattle.xs_params.specs.Geometry.{bands_of, packet_bands, packets_of}
use Rattle.xs_geometry.specs.Places.{packet_at}
use Rattle.xs_spelling.specs.Sizes.{count_size, flag_size}
use Rattle.xs_rate.specs.Modes.{band_lines, fewest}
use Rattle.xs_sizes.specs.Cut.{cut_line}
use Rattle.xs_sizes.specs.declared.precincts.PacketBands.{PacketBands}
use Rattle.xs_sizes.specs.declared.precincts.PrecinctCounts.{PrecinctCounts}

-- the bits of flags and counts of some lines of a band with t planes cut off, in a mode; and the mode that the band has in a precinct
abbrev pub lines_bits : Header → Rows → ℕ → ℕ → ℕ → List ℕ → ℕ
lines_bits h rows band t mode lines = sum_by (λ line. flag_size (cut_line h h.quant rows t mode band line) + count_size (cut_line h h.quant rows t mode band line)) lines

abbrev pub mode_at : Header → Rows → ℕ → ℕ → ℕ → ℕ
mode_at h rows precinct band t = fewest (λ mode. lines_bits h rows band t mode (band_lines h precinct band))

-- the modes of a band at the truncations 0 to 15
abbrev pub AreModes : Header → Rows → ℕ → ℕ → List ℕ → Type 0
AreModes h rows precinct band modes = (t : ℕ) → t ≤ 15 → slice_index_or modes t 0 ≡ mode_at h rows precinct band t

-- the bands and the line of the packet at a place
pub record IsPacketAt (h : Header) (place : PacketPlace) (packet : PacketBands) : Type 0 where
  pub bands : packet_bands h place ≡ range_with_len packet.first (packet.end - packet.first)
  pub order : packet.first ≤ packet.end
  pub there : packet.end ≤ bands_of h
  pub line : packet.line ≡ place.line

-- those of the packets of a precinct, in order
pub record ArePacketsOf (h : Header) (precinct : ℕ) (packets : List PacketBands) : Type 0 where
  pub count : length packets ≡ length (packets_of h precinct)
  pub each : (number : ℕ) (none : PacketBands) → number < length packets → IsPacketAt h (packet_at h precinct number) (slice_index_or packets number none)

-- the modes of all bands
pub record AreAllModes (h : Header) (rows : Rows) (precinct : ℕ) (modes : List (List ℕ)) : Type 0 where
  pub count : length modes ≡ bands_of h
  pub each : (band : ℕ) (none : List ℕ) → band < length modes → AreModes h rows precinct band (slice_index_or modes band none)

pub record IsPrecinctKept (h : Header) (rows : Rows) (precinct : ℕ) (kept : PrecinctCounts) : Type 0 where
  pub packets : ArePacketsOf h precinct kept.packets.items
  pub modes : AreAllModes h rows precinct kept.modes.items

-- precincts one after the other from a first one on
pub record ArePrecinctsKept (h : Header) (rows : Rows) (first end : ℕ) (kept : List PrecinctCounts) : Type 0 where
  pub count : first + length kept ≡ end
  pub each : (number : ℕ) (none : PrecinctCounts) → number < length kept → IsPrecinctKept h rows (first + number) (slice_index_or kept number none)
