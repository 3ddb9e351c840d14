-- What is read of a header, and the first fault of bytes that are none: 'Codestream layout' and 'Picture header'.
use Rattle.std.specs.Prelude.{ℕ, suc, zero, ◌+◌, ◌*◌, Bool, not, ◌&&◌, ◌||◌, nat_eq, nat_lt, nat_le, if◌then◌else◌, is_none, Option, Some, None, Result, Ok, Err, List, [], ◌∷◌, length, take, drop}
use Rattle.std.specs.Option.{unwrap_or}
use Rattle.std.specs.Result.{result_unwrap_or}
use Rattle.xs_lists.specs.Fields.{half_word_at}
use Rattle.xs_lists.specs.First.{first_of}
use Rattle.xs_layout.specs.declared.Format.TheVariants.{Mono}
use Rattle.xs_layout.specs.declared.Quant.TheVariants.{DeadZone, Uniform}
use Rattle.xs_layout.specs.declared.Shape.{Shape}
use Rattle.xs_layout.specs.declared.Weight.{Weight}
use Rattle.xs_params.specs.declared.header.Header.{Header}
use Rattle.xs_params.specs.Geometry.{blank_header}
use Rattle.xs_faults.specs.declared.HeadFault.{HeadFault}
use Rattle.xs_faults.specs.declared.HeadFault.TheVariants.{Truncated, Marker, Absent}
use Rattle.xs_grammar.specs.Header.{pih_code, cdt_code, wgt_code}
use Rattle.xs_markers.specs.declared.picture.PictureFields.{PictureFields}
use Rattle.xs_markers.specs.declared.seen.Seen.{Seen}
use Rattle.xs_markers.specs.Segments.{soc_code, slh_code, segment_kind, segment_body, segment_end, bands_of_fields, nothing_seen, with_segment, segment_fault}

-- One segment after the other

-- an answer, if there is no fault before it
abbrev pub unless : {A : Type 0} → Option HeadFault → Result A HeadFault → Result A HeadFault
unless None answer = answer
unless (Some fault) answer = Err fault

-- the bytes end, or a slice begins
abbrev pub is_end : List ℕ → ℕ → Bool
is_end bytes place = nat_le (length bytes) place || (nat_le (place + 2) (length bytes) && nat_eq (half_word_at bytes place) slh_code)

-- what is seen from a place on, after what was seen before it, and where the header ends; a segment has four bytes or more, so that as many steps as
-- there are bytes are enough
unfoldable pub segments_from : ℕ → List ℕ → ℕ → Seen → Result (Seen × ℕ) HeadFault
segments_from zero bytes place seen = Err (Truncated (length bytes))
segments_from (suc steps) bytes place seen =
    if is_end bytes place then Ok (seen, place)
    else unless (segment_fault bytes place seen)
    (segments_from steps bytes (segment_end bytes place) (with_segment seen (segment_kind bytes place) (segment_body bytes place) (place + 4)))

-- the bytes end before the start marker, or another one stands in its place
unfoldable pub start_fault : List ℕ → Option HeadFault
start_fault bytes =
    first_of (
    (nat_lt (length bytes) 2, Truncated (length bytes))
    ∷ (not (nat_eq (half_word_at bytes 0) soc_code), Marker (half_word_at bytes 0) 0)
    ∷ []
    )

-- what is seen of a header, and where it ends
unfoldable pub segments_of : List ℕ → Result (Seen × ℕ) HeadFault
segments_of bytes = unless (start_fault bytes) (segments_from (length bytes) bytes 2 nothing_seen)

-- what is wrong where it ends without a segment: the bytes are cut, if it is they that end; else the segment is not there
abbrev pub missing : List ℕ → ℕ → ℕ → HeadFault
missing bytes place code = if nat_le (length bytes) place then Truncated (length bytes) else Absent code

-- the first of the three segments that was not seen
unfoldable pub end_fault : List ℕ → Seen → ℕ → Option HeadFault
end_fault bytes seen place =
    first_of (
    (is_none seen.picture, missing bytes place pih_code)
    ∷ (is_none seen.shape, missing bytes place cdt_code)
    ∷ (is_none seen.weights, missing bytes place wgt_code)
    ∷ []
    )

-- What it says

-- the weights of bands, a gain and a priority each
abbrev pub weights_of : List ℕ → List Weight
weights_of [] = []
weights_of (gain ∷ []) = []
weights_of (gain ∷ priority ∷ body) = record { gain = gain; priority = priority } ∷ weights_of body

-- those of a picture, which stand at a place
abbrev pub weights_at : List ℕ → PictureFields → ℕ → List Weight
weights_at bytes p at = weights_of (take (2 * bands_of_fields p) (drop at bytes))

-- the header of fields, a shape and weights
abbrev pub header_of_fields : PictureFields → Shape → List Weight → Header
header_of_fields p shape weights = record {
  lcod = p.lcod;
  shape = shape;
  hsl = p.hsl;
  bw = p.bw;
  fq = p.fq;
  colour = nat_eq p.cpih 1;
  nlx = p.nlx;
  nly = p.nly;
  long_heads = p.lh;
  quant = if nat_eq p.qpih 1 then Uniform else DeadZone;
  signs_apart = nat_eq p.fs 1;
  run_mode = p.rm;
  weights = weights;
}

-- of bytes that are none
abbrev pub no_shape : Shape
no_shape = record { width = 0; height = 0; format = Mono; depth = 0 }

abbrev pub no_header : Header
no_header = blank_header no_shape 0 0 0

-- the header of what was seen
abbrev pub header_of_seen : List ℕ → Seen → Header
header_of_seen bytes seen = elim seen.picture [
  | None ↦ no_header
  | Some p ↦ header_of_fields p (unwrap_or seen.shape no_shape) (weights_at bytes p (unwrap_or seen.weights 0))
]

-- Headers

-- the first fault of bytes that are to begin with a header
abbrev pub head_fault : List ℕ → Option HeadFault
head_fault bytes = elim (segments_of bytes) [ Err fault ↦ Some fault | Ok found ↦ end_fault bytes found.0 found.1 ]

-- the header, and where it ends
abbrev pub header_at : List ℕ → Header
header_at bytes = header_of_seen bytes (result_unwrap_or (segments_of bytes) (nothing_seen, 0)).0

abbrev pub header_end : List ℕ → ℕ
header_end bytes = (result_unwrap_or (segments_of bytes) (nothing_seen, 0)).1
