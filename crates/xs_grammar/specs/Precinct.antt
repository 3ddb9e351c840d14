-- A precinct, and the content that a codestream spells: 'Slice, precinct and packet', and the predictor of 'Bit-plane counts'.
use Rattle.std.specs.Prelude.{◌≡◌, ℕ, ◌-◌, ◌*◌, ◌/◌, ◌%◌, Bool, nat_eq, not, ◌&&◌, if◌then◌else◌, ℤ, List, ◌∷◌, ◌++◌, length, map, slice_index_or}
use Rattle.xs_params.specs.declared.header.Header.{Header}
use Rattle.xs_layout.specs.declared.Weight.{Weight}
use Rattle.xs_lists.specs.Bits.{bits_of_fields, FieldsFit}
use Rattle.xs_lists.specs.Spelling.{upto, BeginsAs, SpellsEach, SpellsPadded}
use Rattle.xs_layout.specs.Geometry.{groups_of, PacketPlace}
use Rattle.xs_params.specs.Geometry.{bands_of, band_width_of, precinct_lines, packet_bands, packets_of}
use Rattle.xs_spelling.specs.Counts.{Line, predicts_above, predicted}
use Rattle.xs_layout.specs.Weighting.{truncation_of}
use Rattle.xs_grammar.specs.Packet.{IsPacket}

-- What the slices of a picture hold. A slice speaks of its own precincts and lines alone.
pub record Content : Type 0 where
  -- the quantisation and the refinement of a precinct
  pub q : ℕ → ℕ
  pub r : ℕ → ℕ
  -- the count of bit planes of a band, line and code group
  pub count : ℕ → ℕ → ℕ → ℕ
  -- the signed number of a band, line and column; columns past the band's width fill up its last code group
  pub value : ℕ → ℕ → ℕ → ℤ

-- the weight of a band
abbrev pub weight_of : Header → ℕ → Weight
weight_of h band = slice_index_or h.weights band (record { gain = 0; priority = 0 })

-- the precinct that has a line of a band
abbrev pub precinct_of : Header → ℕ → ℕ → ℕ
precinct_of h band line = line / precinct_lines h band

-- whether a line is its band's first one in a slice
abbrev pub is_first_line : Header → ℕ → ℕ → Bool
is_first_line h band line = nat_eq (line % (h.hsl * precinct_lines h band)) 0

-- the truncation with which a line is coded
abbrev pub line_truncation : Header → Content → ℕ → ℕ → ℕ
line_truncation h content band line = truncation_of (content.q (precinct_of h band line)) (content.r (precinct_of h band line)) (weight_of h band)

-- What the count of a code group is predicted to be: the truncation; or, where the mode says so and the slice has a line above,
-- the greatest of the count above, the truncation above and the truncation
abbrev pub prediction_of : Header → Content → ℕ → ℕ → ℕ → ℕ → ℕ
prediction_of h content mode band line group =
    if predicts_above mode && not (is_first_line h band line)
    then predicted (content.count band (line - 1) group) (line_truncation h content band (line - 1)) (line_truncation h content band line)
    else line_truncation h content band line

-- a line of a band as a packet codes it
abbrev pub coded_line : Header → Content → ℕ → ℕ → ℕ → Line
coded_line h content mode band line = record {
  groups = groups_of (band_width_of h band);
  mode = mode;
  truncation = line_truncation h content band line;
  prediction = prediction_of h content mode band line;
  count = content.count band line;
  value = content.value band line;
}

-- the fields of a precinct header: the bytes after it, quantisation and refinement, and the mode of each band
abbrev pub precinct_fields : Header → Content → ℕ → ℕ → (ℕ → ℕ) → List (ℕ × ℕ)
precinct_fields h content precinct size mode =
    (24, size) ∷ (8, content.q precinct) ∷ (8, content.r precinct) ∷ map (λ band. (2, mode band)) (upto (bands_of h))

-- the bytes spell a packet of a precinct, by the modes of the bands
abbrev pub SpellsPacket : Header → Content → (ℕ → ℕ) → PacketPlace → List ℕ → Type 0
SpellsPacket h content mode place = IsPacket h (packet_bands h place) (λ band. coded_line h content (mode band) band place.line)

-- The bytes are a precinct: its header, padded to a byte, and a body that begins with its packets in order.
pub record IsPrecinct (h : Header) (content : Content) (precinct : ℕ) (bytes : List ℕ) : Type 0 where
  pub head : List ℕ
  pub body : List ℕ
  pub joined : bytes ≡ head ++ body
  pub mode : ℕ → ℕ
  pub room : FieldsFit (precinct_fields h content precinct (length body) mode)
  pub headed : SpellsPadded head (bits_of_fields (precinct_fields h content precinct (length body) mode))
  pub filled : BeginsAs (SpellsEach (SpellsPacket h content mode) (packets_of h precinct)) body
