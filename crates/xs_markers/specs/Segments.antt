-- The segments of a header, which of them may stand at a place, and what is kept of them: 'Codestream layout'.
use Rattle.std.specs.Prelude.{ℕ, ◌+◌, ◌-◌, ◌*◌, ◌||◌, Bool, false, not, nat_eq, nat_lt, nat_le, if◌then◌else◌, is_some, is_none, Option, Some, None, List, [], ◌∷◌, length, take, drop}
use Rattle.std.specs.Option.{option_map}
use Rattle.xs_lists.specs.Fields.{field, has_bit, half_word_at, word_at}
use Rattle.xs_lists.specs.First.{first_of, first_some, when}
use Rattle.xs_layout.specs.Geometry.{band_count_of}
use Rattle.xs_layout.specs.declared.Shape.{Shape}
use Rattle.xs_faults.specs.declared.HeadFault.{HeadFault}
use Rattle.xs_faults.specs.declared.HeadFault.TheVariants.{Truncated, Marker, Segment, Length, Twice, Absent}
use Rattle.xs_grammar.specs.Header.{cap_code, com_code, crg_code, pih_code, cdt_code, wgt_code}
use Rattle.xs_markers.specs.declared.kinds.Kind.{Kind}
use Rattle.xs_markers.specs.declared.kinds.Kind.TheVariants as kind
use Rattle.xs_markers.specs.declared.picture.PictureFields.{PictureFields}
use Rattle.xs_markers.specs.declared.rules.FieldRule.{FieldRule}
use Rattle.xs_markers.specs.declared.seen.Seen.{Seen}
use Rattle.xs_markers.specs.Values.{byte_at, fields_fault, format_of, depth_at, picture_rules, table_rules}

-- Codes

-- the markers that begin a codestream and a slice
abbrev pub soc_code : ℕ
soc_code = 0xff10

abbrev pub slh_code : ℕ
slh_code = 0xff20

-- segments that are not supported: NLT, CWD, CTS
abbrev pub nlt_code : ℕ
nlt_code = 0xff16

abbrev pub cwd_code : ℕ
cwd_code = 0xff17

abbrev pub cts_code : ℕ
cts_code = 0xff18

-- what a code stands for
unfoldable pub kind_of : ℕ → Kind
kind_of code =
    if nat_eq code pih_code then kind.Picture
    else if nat_eq code cdt_code then kind.Components
    else if nat_eq code wgt_code then kind.Weights
    else if nat_eq code cap_code || nat_eq code com_code || nat_eq code crg_code then kind.SteppedOver
    else if nat_eq code nlt_code || nat_eq code cwd_code || nat_eq code cts_code then kind.Unsupported
    else kind.Unknown

-- A segment at a place

abbrev pub segment_code : List ℕ → ℕ → ℕ
segment_code bytes place = half_word_at bytes place

abbrev pub segment_kind : List ℕ → ℕ → Kind
segment_kind bytes place = kind_of (segment_code bytes place)

-- its length, which counts itself
abbrev pub segment_size : List ℕ → ℕ → ℕ
segment_size bytes place = half_word_at bytes (place + 2)

abbrev pub segment_body : List ℕ → ℕ → List ℕ
segment_body bytes place = take (segment_size bytes place - 2) (drop (place + 4) bytes)

-- where it ends
abbrev pub segment_end : List ℕ → ℕ → ℕ
segment_end bytes place = place + 2 + segment_size bytes place

-- What bodies say

-- the fields of the body of a picture header; profile, level and the field Rl are left out
abbrev pub picture_fields_of : List ℕ → PictureFields
picture_fields_of body = record {
  lcod = word_at body 0;
  wf = half_word_at body 8;
  hf = half_word_at body 10;
  cw = half_word_at body 12;
  hsl = half_word_at body 14;
  nc = byte_at body 16;
  ng = byte_at body 17;
  ss = byte_at body 18;
  bw = byte_at body 19;
  fq = field 4 4 (byte_at body 20);
  br = field 4 0 (byte_at body 20);
  fslc = field 1 7 (byte_at body 21);
  ppoc = field 3 4 (byte_at body 21);
  cpih = field 4 0 (byte_at body 21);
  nlx = field 4 4 (byte_at body 22);
  nly = field 4 0 (byte_at body 22);
  lh = has_bit 7 (byte_at body 23);
  qpih = field 2 4 (byte_at body 23);
  fs = field 2 2 (byte_at body 23);
  rm = field 2 0 (byte_at body 23);
}

-- the bands of a picture
abbrev pub bands_of_fields : PictureFields → ℕ
bands_of_fields p = band_count_of p.nlx p.nly p.nc

-- the shape of a picture, by its header and the body of the table of components
abbrev pub shape_of : PictureFields → List ℕ → Shape
shape_of p body = record { width = p.wf; height = p.hf; format = format_of p body; depth = depth_at body 0 }

-- What was seen of a header

-- nothing
abbrev pub nothing_seen : Seen
nothing_seen = record { picture = None; shape = None; weights = None }

-- and one segment more, whose body stands at a place
abbrev pub with_segment : Seen → Kind → List ℕ → ℕ → Seen
with_segment seen kind.Picture body at = record seen { picture = Some (picture_fields_of body) }
with_segment seen kind.Components body at = record seen { shape = option_map (λ p. shape_of p body) seen.picture }
with_segment seen kind.Weights body at = record seen { weights = Some at }
with_segment seen kind.SteppedOver body at = seen
with_segment seen kind.Unsupported body at = seen
with_segment seen kind.Unknown body at = seen

-- Why a segment is refused

-- the picture header comes first, and each table once; some segments are not supported, and other codes do not stand here
abbrev pub kind_fault : Seen → Kind → ℕ → ℕ → Option HeadFault
kind_fault seen kind.Picture code place = when (is_some seen.picture) (Twice code)
kind_fault seen kind.Components code place = first_of ((is_some seen.shape, Twice code) ∷ (is_none seen.picture, Absent pih_code) ∷ [])
kind_fault seen kind.Weights code place = first_of ((is_some seen.weights, Twice code) ∷ (is_none seen.picture, Absent pih_code) ∷ [])
kind_fault seen kind.SteppedOver code place = None
kind_fault seen kind.Unsupported code place = Some (Segment code place)
kind_fault seen kind.Unknown code place = Some (Marker code place)

-- the length that a segment may have
abbrev pub is_size : Seen → Kind → ℕ → Bool
is_size seen kind.Picture size = nat_eq size 26
is_size seen kind.Components size = elim seen.picture [ None ↦ false | Some p ↦ nat_eq size (2 + 2 * p.nc) ]
is_size seen kind.Weights size = elim seen.picture [ None ↦ false | Some p ↦ nat_eq size (2 + 2 * bands_of_fields p) ]
is_size seen kind.SteppedOver size = nat_le 2 size
is_size seen kind.Unsupported size = false
is_size seen kind.Unknown size = false

-- the values that its fields may have
abbrev pub rules_of : Seen → Kind → List ℕ → List FieldRule
rules_of seen kind.Picture body = picture_rules (picture_fields_of body)
rules_of seen kind.Components body = elim seen.picture [ None ↦ [] | Some p ↦ table_rules p body ]
rules_of seen kind.Weights body = []
rules_of seen kind.SteppedOver body = []
rules_of seen kind.Unsupported body = []
rules_of seen kind.Unknown body = []

-- the bytes end in a code, or no such segment stands here
unfoldable pub code_fault : List ℕ → ℕ → Seen → Option HeadFault
code_fault bytes place seen =
    first_some (
    when (nat_lt (length bytes) (place + 2)) (Truncated (length bytes))
    ∷ kind_fault seen (segment_kind bytes place) (segment_code bytes place) place
    ∷ []
    )

-- its length is not there, or is another than it may have, or the body is not there in full
unfoldable pub size_fault : List ℕ → ℕ → Seen → Option HeadFault
size_fault bytes place seen =
    first_of (
    (nat_lt (length bytes) (place + 4), Truncated (length bytes))
    ∷ (not (is_size seen (segment_kind bytes place) (segment_size bytes place)), Length (segment_code bytes place) (segment_size bytes place))
    ∷ (nat_lt (length bytes) (segment_end bytes place), Truncated (length bytes))
    ∷ []
    )

-- the first fault of the segment at a place, after what was seen before it
unfoldable pub segment_fault : List ℕ → ℕ → Seen → Option HeadFault
segment_fault bytes place seen =
    first_some (
    code_fault bytes place seen
    ∷ size_fault bytes place seen
    ∷ fields_fault (rules_of seen (segment_kind bytes place) (segment_body bytes place))
    ∷ []
    )
