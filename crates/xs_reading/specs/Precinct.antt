-- What bytes hold of a precinct, and their first fault, by the content that was read before: 'Slice, precinct and packet'.
use Rattle.std.specs.Prelude.{ℕ, ◌+◌, ◌*◌, nat_eq, nat_lt, ◌||◌, ◌&&◌, if◌then◌else◌, Option, None, List, [], ◌∷◌, length, take, drop, map}
use Rattle.xs_layout.specs.Geometry.{PacketPlace}
use Rattle.xs_lists.specs.Bits.{bits_of_bytes, bytes_for}
use Rattle.xs_lists.specs.First.{when, first_some}
use Rattle.xs_params.specs.declared.header.Header.{Header}
use Rattle.xs_faults.specs.declared.PrecinctFault.{PrecinctFault}
use Rattle.xs_faults.specs.declared.PrecinctFault.TheVariants as fault
use Rattle.xs_spelling.specs.Counts.{Line}
use Rattle.xs_params.specs.Geometry.{bands_of, packet_bands, packets_of}
use Rattle.xs_grammar.specs.Precinct.{Content, coded_line}
use Rattle.xs_reading.specs.Packet.{field_at, packet_end, packet_fault, packet_lines}

-- Headers

-- the bytes of a precinct's header
abbrev pub precinct_head_size : Header → ℕ
precinct_head_size h = bytes_for (40 + 2 * bands_of h)

-- the bytes that it states follow, the quantisation, the refinement, and the mode of a band
abbrev pub stated_size : List ℕ → ℕ
stated_size bytes = field_at (bits_of_bytes bytes) 0 24

abbrev pub q_at : List ℕ → ℕ
q_at bytes = field_at (bits_of_bytes bytes) 24 8

abbrev pub r_at : List ℕ → ℕ
r_at bytes = field_at (bits_of_bytes bytes) 32 8

abbrev pub mode_at : List ℕ → ℕ → ℕ
mode_at bytes band = field_at (bits_of_bytes bytes) (40 + 2 * band) 2

-- where the precinct ends
abbrev pub precinct_end : Header → List ℕ → ℕ
precinct_end h bytes = precinct_head_size h + stated_size bytes

-- what follows its header, as many bytes as are stated
abbrev pub body_at : Header → List ℕ → List ℕ
body_at h bytes = take (stated_size bytes) (drop (precinct_head_size h) bytes)

-- Contents

-- the content with a precinct's quantisation and refinement
abbrev pub with_head : Content → ℕ → ℕ → ℕ → Content
with_head content precinct q r = record content { q = λ p. if nat_eq p precinct then q else content.q p; r = λ p. if nat_eq p precinct then r else content.r p }

-- the content with a line of a band
abbrev pub with_band_line : Content → ℕ → ℕ → Line → Content
with_band_line content band number line = record content {
  count = λ b l. if nat_eq b band && nat_eq l number then line.count else content.count b l;
  value = λ b l. if nat_eq b band && nat_eq l number then line.value else content.value b l;
}

-- and with the lines of some bands
abbrev pub with_lines : Content → ℕ → List ℕ → List Line → Content
with_lines content number [] lines = content
with_lines content number (band ∷ bands) [] = content
with_lines content number (band ∷ bands) (line ∷ lines) = with_lines (with_band_line content band number line) number bands lines

-- Packets

-- a packet's lines as the content tells them before they are read: their truncations and predictions
abbrev pub place_lines : Header → (ℕ → ℕ) → Content → PacketPlace → List Line
place_lines h mode content place = map (λ band. coded_line h content (mode band) band place.line) (packet_bands h place)

-- the content with the lines of the packet at the front of the bytes
abbrev pub with_packet : Header → (ℕ → ℕ) → PacketPlace → Content → List ℕ → Content
with_packet h mode place content bytes = with_lines content place.line (packet_bands h place) (packet_lines h (place_lines h mode content place) bytes)

-- the first fault of some packets, of which the first has this number
abbrev pub packets_fault : Header → (ℕ → ℕ) → ℕ → List PacketPlace → Content → List ℕ → Option PrecinctFault
packets_fault h mode number [] content bytes = None
packets_fault h mode number (place ∷ places) content bytes = first_some (
    packet_fault h number (place_lines h mode content place) bytes
    ∷ packets_fault h mode (number + 1) places (with_packet h mode place content bytes) (drop (packet_end h (place_lines h mode content place) bytes) bytes)
    ∷ []
    )

-- the content with their lines
abbrev pub with_packets : Header → (ℕ → ℕ) → List PacketPlace → Content → List ℕ → Content
with_packets h mode [] content bytes = content
with_packets h mode (place ∷ places) content bytes =
    with_packets h mode places (with_packet h mode place content bytes) (drop (packet_end h (place_lines h mode content place) bytes) bytes)

-- Precincts

-- the content before, with what the header of the precinct says
abbrev pub begun : Content → ℕ → List ℕ → Content
begun content precinct bytes = with_head content precinct (q_at bytes) (r_at bytes)

-- the first fault of the precinct at the front of the bytes, by the content before it
abbrev pub precinct_fault : Header → ℕ → Content → List ℕ → Option PrecinctFault
precinct_fault h precinct content bytes = first_some (
    when (nat_lt (length bytes) (precinct_head_size h) || nat_lt (length bytes) (precinct_end h bytes)) fault.Truncated
    ∷ packets_fault h (mode_at bytes) 0 (packets_of h precinct) (begun content precinct bytes) (body_at h bytes)
    ∷ []
    )

-- the content with it
abbrev pub with_precinct : Header → ℕ → Content → List ℕ → Content
with_precinct h precinct content bytes = with_packets h (mode_at bytes) (packets_of h precinct) (begun content precinct bytes) (body_at h bytes)
