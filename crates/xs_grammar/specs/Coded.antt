-- The bytes that a writer gives of a content: 'Slice, precinct and packet', 'Picture header' and 'Codestream layout'. Where the grammar leaves a choice the
-- counts are coded, flags are set exactly where a residual can be left out, padding and filler are zero, and the sign of 0 is clear.
use Rattle.std.specs.Prelude.{◌≡◌, ℕ, ◌-◌, ◌*◌, ◌/◌, ◌^◌, ◌<◌, ◌≤◌, Bool, false, IsTrue, nat_lt, ◌&&◌, if◌then◌else◌, unsigned_abs, List, [], ◌∷◌, ◌++◌, length, replicate}
use Rattle.std.specs.List.{flat_map, list_all, AllByRecursion}
use Rattle.xs_layout.specs.Geometry.{PacketPlace, groups_of}
use Rattle.xs_layout.specs.declared.Weight.{Weight}
use Rattle.xs_lists.specs.Bits.{bits_of_fields}
use Rattle.xs_lists.specs.Packing.{packed}
use Rattle.xs_lists.specs.Spelling.{upto}
use Rattle.xs_params.specs.declared.header.Header.{Header}
use Rattle.xs_spelling.specs.Counts.{Line, flag_bits}
use Rattle.xs_spelling.specs.Data.{sign_bits}
use Rattle.xs_spelling.specs.Written.{written_flag, line_count_bits, line_data_bits}
use Rattle.xs_params.specs.Geometry.{bands_of, band_width_of, packet_bands, packets_of, precincts_of, slice_count}
use Rattle.xs_grammar.specs.Packet.{packet_fields}
use Rattle.xs_grammar.specs.Precinct.{Content, line_truncation, coded_line, precinct_fields}
use Rattle.xs_grammar.specs.Slice.{slice_head}
use Rattle.xs_params.specs.Markers.{eoc, soc}
use Rattle.xs_grammar.specs.Header.{Segment, segment_bytes, cap_code, pih_code, cdt_code, wgt_code, picture_fields, component_fields, weight_fields}

-- the bytes of fields, and whether each value has room in its field
abbrev pub field_bytes : List (ℕ × ℕ) → List ℕ
field_bytes fields = packed (bits_of_fields fields)

abbrev pub fields_fit : List (ℕ × ℕ) → Bool
fields_fit fields = list_all (λ (field : ℕ × ℕ). nat_lt field.1 (2 ^ field.0)) fields

-- Packets

-- the parts of a packet: the bits of its bands' lines, one band after the other, filled up to a byte
abbrev pub flags_part : List ℕ → (ℕ → Line) → List ℕ
flags_part bands line = packed (flat_map (λ band. flag_bits (line band) (written_flag (line band))) bands)

abbrev pub counts_part : List ℕ → (ℕ → Line) → List ℕ
counts_part bands line = packed (flat_map (λ band. line_count_bits false (line band) (written_flag (line band))) bands)

abbrev pub data_part : Bool → List ℕ → (ℕ → Line) → List ℕ
data_part apart bands line = packed (flat_map (λ band. line_data_bits apart (line band)) bands)

abbrev pub signs_part : Bool → List ℕ → (ℕ → Line) → List ℕ
signs_part apart bands line = if apart then packed (flat_map (λ band. sign_bits (line band)) bands) else []

-- the fields of the packet's header, by the sizes of its parts
abbrev pub lines_fields : Header → List ℕ → (ℕ → Line) → List (ℕ × ℕ)
lines_fields h bands line =
    packet_fields h.long_heads false (length (data_part h.signs_apart bands line)) (length (counts_part bands line)) (length (signs_part h.signs_apart bands line))

-- the bytes of a packet of the bands' lines
abbrev pub lines_bytes : Header → List ℕ → (ℕ → Line) → List ℕ
lines_bytes h bands line =
    field_bytes (lines_fields h bands line)
    ++ (flags_part bands line ++ (counts_part bands line ++ (data_part h.signs_apart bands line ++ signs_part h.signs_apart bands line)))

-- the line of a band in a packet, by the modes of the bands
abbrev pub packet_line : Header → Content → (ℕ → ℕ) → PacketPlace → ℕ → Line
packet_line h content mode place band = coded_line h content (mode band) band place.line

-- the bytes of a packet, and whether the size of each part has room in its field
abbrev pub packet_bytes : Header → Content → (ℕ → ℕ) → PacketPlace → List ℕ
packet_bytes h content mode place = lines_bytes h (packet_bands h place) (packet_line h content mode place)

abbrev pub packet_fits : Header → Content → (ℕ → ℕ) → PacketPlace → Bool
packet_fits h content mode place = fields_fit (lines_fields h (packet_bands h place) (packet_line h content mode place))

-- Precincts and slices, by the mode of each precinct and band, and by the zero bytes of filler of each precinct

-- no precinct has any
abbrev pub no_filler : ℕ → ℕ
no_filler precinct = 0

-- the packets of a precinct
abbrev pub packets_bytes : Header → Content → (ℕ → ℕ → ℕ) → ℕ → List ℕ
packets_bytes h content mode precinct = flat_map (packet_bytes h content (mode precinct)) (packets_of h precinct)

-- what follows the header of a precinct: its packets, and the filler
abbrev pub precinct_body : Header → Content → (ℕ → ℕ → ℕ) → (ℕ → ℕ) → ℕ → List ℕ
precinct_body h content mode filler precinct = packets_bytes h content mode precinct ++ replicate (filler precinct) 0

-- the bytes of a precinct, and whether all its sizes have room in their fields
abbrev pub precinct_bytes : Header → Content → (ℕ → ℕ → ℕ) → (ℕ → ℕ) → ℕ → List ℕ
precinct_bytes h content mode filler precinct =
    field_bytes (precinct_fields h content precinct (length (precinct_body h content mode filler precinct)) (mode precinct)) ++ precinct_body h content mode filler precinct

abbrev pub precinct_fits : Header → Content → (ℕ → ℕ → ℕ) → (ℕ → ℕ) → ℕ → Bool
precinct_fits h content mode filler precinct =
    list_all (packet_fits h content (mode precinct)) (packets_of h precinct) && nat_lt (length (precinct_body h content mode filler precinct)) (2 ^ 24)

-- the bytes of a slice, and whether all its sizes have room in their fields
abbrev pub slice_bytes : Header → Content → (ℕ → ℕ → ℕ) → (ℕ → ℕ) → ℕ → List ℕ
slice_bytes h content mode filler slice = slice_head slice ++ flat_map (precinct_bytes h content mode filler) (precincts_of h slice)

abbrev pub slice_fits : Header → Content → (ℕ → ℕ → ℕ) → (ℕ → ℕ) → ℕ → Bool
slice_fits h content mode filler slice = list_all (precinct_fits h content mode filler) (precincts_of h slice)

-- What can be written

-- a line of a band can be written: each count is in range and not below the truncation, and the planes from it down to the truncation have room for the numbers
pub record IsWritableLine (h : Header) (content : Content) (band line : ℕ) : Type 0 where
  pub most : (group : ℕ) → group < groups_of (band_width_of h band) → content.count band line group ≤ 15
  pub cut : (group : ℕ) → group < groups_of (band_width_of h band) → line_truncation h content band line ≤ content.count band line group
  pub small : (column : ℕ) → column < 4 * groups_of (band_width_of h band)
      → unsigned_abs (content.value band line column) < 2 ^ (content.count band line (column / 4) - line_truncation h content band line)

-- a precinct can be written: its own fields have room, and each line of its packets can be written
pub record IsWritablePrecinct (h : Header) (content : Content) (mode : ℕ → ℕ → ℕ) (precinct : ℕ) : Type 0 where
  pub q : content.q precinct < 2 ^ 8
  pub r : content.r precinct < 2 ^ 8
  pub modes : (band : ℕ) → band < bands_of h → mode precinct band < 4
  pub lines : AllByRecursion (λ place. AllByRecursion (λ band. IsWritableLine h content band place.line) (packet_bands h place)) (packets_of h precinct)

-- each precinct of a slice can be written
abbrev pub IsWritable : Header → Content → (ℕ → ℕ → ℕ) → ℕ → Type 0
IsWritable h content mode slice = AllByRecursion (IsWritablePrecinct h content mode) (precincts_of h slice)

-- Headers

-- the segments of a written header: empty capabilities, the picture header with profile, level and the field Rl 0, the components, the weights
abbrev pub written_segments : Header → List Segment
written_segments h =
    record { code = cap_code; body = [] }
    ∷ record { code = pih_code; body = field_bytes (picture_fields h 0 0 0) }
    ∷ record { code = cdt_code; body = field_bytes (component_fields h) }
    ∷ record { code = wgt_code; body = field_bytes (weight_fields h) }
    ∷ []

-- the bytes of a header
abbrev pub header_bytes : Header → List ℕ
header_bytes h = soc ++ flat_map segment_bytes (written_segments h)

-- the numbers of a header that need not be small to be accepted have room in their fields
pub record HasRoom (h : Header) : Type 0 where
  pub lcod : h.lcod < 2 ^ 32
  pub hsl : h.hsl < 2 ^ 16
  pub gains : AllByRecursion (λ (weight : Weight). weight.gain < 2 ^ 8) h.weights
  pub priorities : AllByRecursion (λ (weight : Weight). weight.priority < 2 ^ 8) h.weights

-- Codestreams

-- the bytes of a codestream: its header, its slices in order and the end marker
abbrev pub codestream_bytes : Header → Content → (ℕ → ℕ → ℕ) → (ℕ → ℕ) → List ℕ
codestream_bytes h content mode filler = header_bytes h ++ (flat_map (slice_bytes h content mode filler) (upto (slice_count h)) ++ eoc)

-- a content can be written as a codestream: each slice can, and its sizes have room in their fields
pub record IsWritableStream (h : Header) (content : Content) (mode : ℕ → ℕ → ℕ) (filler : ℕ → ℕ) : Type 0 where
  pub plain : h.run_mode ≡ 0
  pub slices : (slice : ℕ) → slice < slice_count h → IsWritable h content mode slice
  pub fits : (slice : ℕ) → slice < slice_count h → IsTrue (slice_fits h content mode filler slice)
