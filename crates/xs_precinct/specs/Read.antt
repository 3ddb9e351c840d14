-- How a precinct is read: what the bands hold before its packets, and what is left after them.
use Rattle.std.specs.Prelude.{◌≡◌, ◌≢◌, ℕ, ◌+◌, ◌*◌, ◌%◌, ◌<◌, ◌≤◌, ◌↔◌, Option, None, List, length, take, drop, slice_index_or}
use Rattle.std.specs.List.{AllByRecursion}
use Rattle.xs_layout.specs.Geometry.{PacketPlace, components_of, groups_of}
use Rattle.xs_layout.specs.Weighting.{truncation_of}
use Rattle.xs_params.specs.declared.header.Header.{Header}
use Rattle.xs_params.specs.Geometry.{band_width_of, bands_of, precinct_count, precinct_lines}
use Rattle.xs_geometry.specs.SliceLines.{AreLinesOf, BandLines, HasLine, row_at}
use Rattle.xs_grammar.specs.Precinct.{Content, weight_of}
use Rattle.xs_reading.specs.Precinct.{mode_at, precinct_end, precinct_fault, q_at, r_at, with_precinct}
use Rattle.xs_precinct.specs.Held.{Last, above_of, last_before, SameElsewhere, ShowsPrecinct}
use Rattle.xs_precinct.specs.Bands.{Band, EachOf, Follows, IsBand, IsBegun, last_of, no_band, row_of}

-- The precinct at the front of the bytes was read, after what the content holds: it has no fault, the rows and the lines above are those of the content
-- with it
pub record IsPrecinctRead (h : Header) (precinct : ℕ) (content : Content) (bytes : List ℕ) (above : List (Option Last)) (old new : List BandLines) (n : ℕ) : Type 0 where
  pub no_fault : precinct_fault h precinct content bytes ≡ None
  pub ends : n ≡ precinct_end h bytes
  pub shown : ShowsPrecinct h (with_precinct h precinct content bytes) precinct new
  pub elsewhere : SameElsewhere h precinct old new
  -- within the slice and the picture; after the last precinct of either nothing is said
  pub kept : 0 < (precinct + 1) % h.hsl → precinct + 1 < precinct_count h → above ≡ above_of h (with_precinct h precinct content bytes) (precinct + 1)

-- Bands

-- each band has the settings that a precinct's header has for it
pub record ArePrepared (h : Header) (head : List ℕ) (old new : List Band) : Type 0 where
  pub count : length new ≡ length old
  pub begun : (band : ℕ) → band < length old
      → IsBegun (slice_index_or old band no_band) (slice_index_or new band no_band) (groups_of (band_width_of h band)) (mode_at head band) (truncation_of (q_at head) (r_at head) (weight_of h band))

-- each band has room for its lines
abbrev pub HaveRooms : Header → List Band → Type 0
HaveRooms h bands = (band : ℕ) → band < bands_of h → length (slice_index_or bands band no_band).counts ≡ groups_of (band_width_of h band)

-- it is ready for its first line in a precinct, after what the content holds
pub record IsReady (h : Header) (precinct : ℕ) (content : Content) (modes : ℕ → ℕ) (band : ℕ) (state : Band) : Type 0 where
  pub mode : state.mode ≡ modes band
  pub cut : state.cut ≡ truncation_of (content.q precinct) (content.r precinct) (weight_of h band)
  pub above : last_of state ≡ last_before h content band (precinct * precinct_lines h band)

abbrev pub AreReady : Header → ℕ → Content → (ℕ → ℕ) → List Band → Type 0
AreReady h precinct content mode bands = (band : ℕ) → band < bands_of h → IsReady h precinct content mode band (slice_index_or bands band no_band)

-- Packets

-- the bands of a packet
abbrev pub bands_at : Header → PacketPlace → List Band → List Band
bands_at h place bands = take (place.types * components_of h.shape.format) (drop (place.first_type * components_of h.shape.format) bands)

-- a band is one of a packet
abbrev pub IsAmong : Header → PacketPlace → ℕ → Type 0
IsAmong h place band = (place.first_type * components_of h.shape.format ≤ band) × (band < place.first_type * components_of h.shape.format + place.types * components_of h.shape.format)

-- the bands after a packet was read: those that are not its own are as before
pub record AreAfterPacket (h : Header) (place : PacketPlace) (old new : List Band) : Type 0 where
  pub count : length new ≡ length old
  pub ranges : AllByRecursion IsBand (bands_at h place old)
  pub follow : EachOf Follows (bands_at h place old) (bands_at h place new)
  pub others : (band : ℕ) → (IsAmong h place band → ⊥) → slice_index_or new band no_band ≡ slice_index_or old band no_band

-- the rows after its lines were put there
pub record ArePut (h : Header) (place : PacketPlace) (bands : List Band) (old new : List BandLines) : Type 0 where
  pub kept : (g : Header) (slice : ℕ) → AreLinesOf g slice old → AreLinesOf g slice new
  pub same_lines : (band line : ℕ) → HasLine new band line ↔ HasLine old band line
  pub here : (band : ℕ) → IsAmong h place band → row_at new band place.line ≡ row_of h.quant (slice_index_or bands band no_band) (length (row_at old band place.line))
  pub elsewhere : (band line : ℕ) → HasLine old band line → (IsAmong h place band → line ≢ place.line) → row_at new band line ≡ row_at old band line

-- what is left when the packets of a precinct were read after what the content holds
pub record ArePacketsRead (h : Header) (precinct : ℕ) (after : Content) (bands : List Band) (old new : List BandLines) : Type 0 where
  pub shown : ShowsPrecinct h after precinct new
  pub elsewhere : SameElsewhere h precinct old new
  pub kept : 0 < (precinct + 1) % h.hsl → precinct + 1 < precinct_count h
      → (band : ℕ) → band < bands_of h → last_of (slice_index_or bands band no_band) ≡ last_before h after band ((precinct + 1) * precinct_lines h band)
