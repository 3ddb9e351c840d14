-- The header of a codestream: 'Picture header', and the segments of 'Codestream layout'.
use Rattle.std.specs.Prelude.{◌≡◌, ℕ, ◌+◌, ◌^◌, ◌<◌, ◌⊎◌, Bool, not, ◌||◌, nat_eq, List, [], ◌∷◌, ◌++◌, length, drop}
use Rattle.std.specs.Int.{to_be_bytes, w16}
use Rattle.std.specs.List.{flat_map, filter, AllByRecursion}
use Rattle.xs_layout.specs.declared.Quant.{Quant}
use Rattle.xs_layout.specs.declared.Quant.TheVariants.{DeadZone, Uniform}
use Rattle.xs_layout.specs.declared.Weight.{Weight}
use Rattle.xs_params.specs.declared.header.Header.{Header}
use Rattle.xs_lists.specs.Bits.{bits_of_bytes, bits_of_fields, FieldsFit, bit_of}
use Rattle.xs_lists.specs.Spelling.{upto, BeginsWith, FirstAre}
use Rattle.xs_layout.specs.Geometry.{components_of, sampling_of}
use Rattle.xs_params.specs.Accepted.{IsAccepted}
use Rattle.xs_params.specs.Boxes.{AreBoxes}
use Rattle.xs_params.specs.Markers.{soc, slh}

-- A segment: a code and a body, with the length of the body and of itself between them
pub record Segment : Type 0 where
  pub code : ℕ
  pub body : List ℕ

-- the bytes of a segment: code, length and body
abbrev pub segment_bytes : Segment → List ℕ
segment_bytes s = to_be_bytes w16 s.code ++ (to_be_bytes w16 (length s.body + 2) ++ s.body)

-- Codes of segments

-- capabilities: stepped over
abbrev pub cap_code : ℕ
cap_code = 0xff50

-- a comment: stepped over
abbrev pub com_code : ℕ
com_code = 0xff15

-- component registration: stepped over
abbrev pub crg_code : ℕ
crg_code = 0xff19

-- the picture header
abbrev pub pih_code : ℕ
pih_code = 0xff12

-- the table of components
abbrev pub cdt_code : ℕ
cdt_code = 0xff13

-- the table of weights
abbrev pub wgt_code : ℕ
wgt_code = 0xff14

-- whether a segment may stand anywhere and says nothing
abbrev pub is_stepped_over : Segment → Bool
is_stepped_over s = nat_eq s.code cap_code || nat_eq s.code com_code || nat_eq s.code crg_code

-- how a quantiser is written
abbrev pub quant_code : Quant → ℕ
quant_code DeadZone = 0
quant_code Uniform = 1

-- The fields of the picture header, in order. Profile, level and the field Rl may have any value. Column width, code group size, significance group size,
-- the bits of a raw count, slice coding and packet order have one each.
abbrev pub picture_fields : Header → ℕ → ℕ → ℕ → List (ℕ × ℕ)
picture_fields h profile level raw_line =
    -- Lcod, Ppih, Plev
    (32, h.lcod) ∷ (16, profile) ∷ (16, level)
    -- Wf, Hf, Cw, Hsl
    ∷ (16, h.shape.width) ∷ (16, h.shape.height) ∷ (16, 0) ∷ (16, h.hsl)
    -- Nc, Ng, Ss, Bw, Fq, Br
    ∷ (8, components_of h.shape.format) ∷ (8, 4) ∷ (8, 8) ∷ (8, h.bw) ∷ (4, h.fq) ∷ (4, 4)
    -- Fslc, Ppoc, Cpih, NLx, NLy, Lh, Rl
    ∷ (1, 0) ∷ (3, 0) ∷ (4, bit_of h.colour) ∷ (4, h.nlx) ∷ (4, h.nly) ∷ (1, bit_of h.long_heads) ∷ (1, raw_line)
    -- Qpih, Fs, Rm
    ∷ (2, quant_code h.quant) ∷ (2, bit_of h.signs_apart) ∷ (2, h.run_mode)
    ∷ []

-- the fields of the components: bits of a sample, sampling across and down
abbrev pub component_fields : Header → List (ℕ × ℕ)
component_fields h = flat_map (λ component. (8, h.shape.depth) ∷ (4, sampling_of h.shape.format component) ∷ (4, 1) ∷ []) (upto (components_of h.shape.format))

-- the fields of the weights: gain and priority of each band
abbrev pub weight_fields : Header → List (ℕ × ℕ)
weight_fields h = flat_map (λ (weight : Weight). (8, weight.gain) ∷ (8, weight.priority) ∷ []) h.weights

-- the segment has this code and spells these fields, and nothing else
pub record IsSegment (code : ℕ) (fields : List (ℕ × ℕ)) (s : Segment) : Type 0 where
  pub coded : s.code ≡ code
  pub room : FieldsFit fields
  pub spelled : bits_of_bytes s.body ≡ bits_of_fields fields

-- The segments say what h says: without those that are stepped over they are the picture header and then components and weights, in either order.
pub record AreSegmentsOf (h : Header) (segments : List Segment) : Type 0 where
  pub profile : ℕ
  pub level : ℕ
  pub raw_line : ℕ
  pub picture : Segment
  pub component : Segment
  pub weight : Segment
  pub order : (filter (λ s. not (is_stepped_over s)) segments ≡ picture ∷ component ∷ weight ∷ [])
      ⊎ (filter (λ s. not (is_stepped_over s)) segments ≡ picture ∷ weight ∷ component ∷ [])
  pub picture_is : IsSegment pih_code (picture_fields h profile level raw_line) picture
  pub component_is : IsSegment cdt_code (component_fields h) component
  pub weight_is : IsSegment wgt_code (weight_fields h) weight

-- the bytes are a header: they are cut into the start marker and segments, each of a length that its field has room for
pub record IsHeader (h : Header) (bytes : List ℕ) : Type 0 where
  pub accepted : IsAccepted h
  pub segments : List Segment
  pub joined : bytes ≡ soc ++ flat_map segment_bytes segments
  pub short : AllByRecursion (λ (s : Segment). length s.body + 2 < 2 ^ 16) segments
  pub said : AreSegmentsOf h segments

-- the first n bytes are a header, and a slice begins after them, or the bytes end
abbrev pub IsHeaderFront : Header → List ℕ → ℕ → Type 0
IsHeaderFront h bytes n = FirstAre (IsHeader h) bytes n × ((n ≡ length bytes) ⊎ BeginsWith (drop n bytes) slh)

-- the bytes are what is sent of a header: whole boxes, and a header of len bytes that ends with them
abbrev pub IsHeaderUnit : Header → List ℕ → ℕ → Type 0
IsHeaderUnit h bytes len = (boxes : List ℕ) × (stream : List ℕ) × AreBoxes boxes × (bytes ≡ boxes ++ stream) × IsHeader h stream × (len ≡ length stream)
