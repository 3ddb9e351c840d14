-- An RTP packet, and where its payload stands: 'RTP packets and captures'.
use Rattle.std.specs.Prelude.{◌≡◌, ℕ, ◌+◌, ◌-◌, ◌*◌, ◌^◌, ◌<◌, Bool, false, not, ◌&&◌, ◌||◌, nat_eq, nat_lt, if◌then◌else◌, Result, Ok, Err, None, Some, List, [], ◌∷◌, ◌++◌, length, slice_index, MatchBool}
use Rattle.std.specs.Int.{to_be_bytes, w16, w32}
use Rattle.xs_lists.specs.Bits.{bits_of_bytes, bits_of_fields, FieldsFit, bit_of}
use Rattle.xs_lists.specs.Fields.{field, has_bit, half_word_at, word_at}
use Rattle.xs_lists.specs.First.{first_of}
use Rattle.xs_rtp.specs.declared.packet.Rtp.{Rtp}
use Rattle.xs_rtp.specs.declared.packet.RtpFault.{RtpFault}
use Rattle.xs_rtp.specs.declared.packet.RtpFault.TheVariants.{Short, Version, Padding, Extension}

-- The fixed header

-- its fields: version 2, padding, extension, number of sources, and what the header says
abbrev pub rtp_fields : Bool → Bool → ℕ → Rtp → List (ℕ × ℕ)
rtp_fields padding extension sources rtp =
    (2, 2) ∷ (1, bit_of padding) ∷ (1, bit_of extension) ∷ (4, sources) ∷ (1, bit_of rtp.marker) ∷ (7, rtp.payload_type)
    ∷ (16, rtp.sequence) ∷ (32, rtp.timestamp) ∷ (32, rtp.ssrc) ∷ []

-- the numbers that a fixed header says have room in their fields
abbrev pub HasRtpRoom : Rtp → Type 0
HasRtpRoom rtp = FieldsFit (rtp_fields false false 0 rtp)

-- an extension: two bytes of any value, the number of its words, and the words, of four bytes each
pub record IsExtension (bytes : List ℕ) : Type 0 where
  pub profile : List ℕ
  pub words : List ℕ
  pub count : ℕ
  pub joined : bytes ≡ profile ++ to_be_bytes w16 count ++ words
  pub sizes : (length profile ≡ 2) × (length words ≡ 4 * count) × (count < 2 ^ 16)

-- padding: its last byte counts it, itself included
pub record IsPadding (bytes : List ℕ) : Type 0 where
  pub filler : List ℕ
  pub joined : bytes ≡ filler ++ length bytes ∷ []

-- The bytes are a packet: fixed header, sources of four bytes each, an extension where its bit is set, the payload, padding where its bit is set.
pub record IsRtp (rtp : Rtp) (payload bytes : List ℕ) : Type 0 where
  pub fixed : List ℕ
  pub sources : List ℕ
  pub extension : List ℕ
  pub padding : List ℕ
  pub joined : bytes ≡ fixed ++ sources ++ extension ++ payload ++ padding
  pub count : ℕ
  pub extended : Bool
  pub padded : Bool
  pub room : FieldsFit (rtp_fields padded extended count rtp)
  pub spelled : bits_of_bytes fixed ≡ bits_of_fields (rtp_fields padded extended count rtp)
  pub sourced : length sources ≡ 4 * count
  pub extension_is : MatchBool extended (IsExtension extension) (extension ≡ [])
  pub padding_is : MatchBool padded (IsPadding padding) (padding ≡ [])

-- the first word of a fixed header
abbrev pub rtp_word : Bool → Bool → ℕ → Rtp → ℕ
rtp_word padding extension sources rtp =
    2 ^ 31 + 2 ^ 29 * bit_of padding + 2 ^ 28 * bit_of extension + 2 ^ 24 * sources + 2 ^ 23 * bit_of rtp.marker + 2 ^ 16 * rtp.payload_type + rtp.sequence

-- its twelve bytes
abbrev pub fixed_bytes : Bool → Bool → ℕ → Rtp → List ℕ
fixed_bytes padding extension sources rtp =
    to_be_bytes w32 (rtp_word padding extension sources rtp) ++ to_be_bytes w32 rtp.timestamp ++ to_be_bytes w32 rtp.ssrc

-- what is written: no sources, no extension and no padding
abbrev pub rtp_bytes : Rtp → List ℕ
rtp_bytes = fixed_bytes false false 0

-- Reading it: fields of the first word, and the places that follow from them

abbrev pub version_of : List ℕ → ℕ
version_of bytes = field 2 30 (word_at bytes 0)

abbrev pub has_padding : List ℕ → Bool
has_padding bytes = has_bit 29 (word_at bytes 0)

abbrev pub has_extension : List ℕ → Bool
has_extension bytes = has_bit 28 (word_at bytes 0)

-- where the sources end
abbrev pub sources_end : List ℕ → ℕ
sources_end bytes = 12 + 4 * field 4 24 (word_at bytes 0)

-- the last byte, which counts the padding
abbrev pub padding_count : List ℕ → ℕ
padding_count bytes = slice_index bytes (length bytes - 1)

-- where the payload ends
abbrev pub payload_end : List ℕ → ℕ
payload_end bytes = if has_padding bytes then length bytes - padding_count bytes else length bytes

-- where an extension's words begin, and where they end
abbrev pub words_begin : List ℕ → ℕ
words_begin bytes = sources_end bytes + 4

abbrev pub words_end : List ℕ → ℕ
words_end bytes = words_begin bytes + 4 * half_word_at bytes (sources_end bytes + 2)

-- where the payload begins
abbrev pub payload_begin : List ℕ → ℕ
payload_begin bytes = if has_extension bytes then words_end bytes else sources_end bytes

-- why bytes are refused, in this order: the fixed header and the sources
abbrev pub front_refusals : List ℕ → List (Bool × RtpFault)
front_refusals bytes =
    (nat_lt (length bytes) 12, Short (length bytes))
    ∷ (not (nat_eq (version_of bytes) 2), Version (version_of bytes))
    ∷ (nat_lt (length bytes) (sources_end bytes), Short (length bytes))
    ∷ []

-- the padding: none is counted, or more than follows the sources
abbrev pub padding_refusals : List ℕ → List (Bool × RtpFault)
padding_refusals bytes =
    (has_padding bytes && (nat_eq (padding_count bytes) 0 || nat_lt (length bytes - sources_end bytes) (padding_count bytes)), Padding (padding_count bytes))
    ∷ []

-- the extension: it passes the end, with its first four bytes or with its words
abbrev pub extension_refusals : List ℕ → List (Bool × RtpFault)
extension_refusals bytes =
    (has_extension bytes && nat_lt (payload_end bytes) (words_begin bytes), Extension (words_begin bytes))
    ∷ (has_extension bytes && nat_lt (payload_end bytes) (words_end bytes), Extension (words_end bytes))
    ∷ []

abbrev pub rtp_refusals : List ℕ → List (Bool × RtpFault)
rtp_refusals bytes = front_refusals bytes ++ padding_refusals bytes ++ extension_refusals bytes

-- what the first twelve bytes say
abbrev pub rtp_of : List ℕ → Rtp
rtp_of bytes = record {
  marker = has_bit 23 (word_at bytes 0);
  payload_type = field 7 16 (word_at bytes 0);
  sequence = field 16 0 (word_at bytes 0);
  timestamp = word_at bytes 4;
  ssrc = word_at bytes 8;
}

-- what reading answers: the header, and the payload's first place and end, or else the first refusal
unfoldable pub rtp_read : List ℕ → Result (Rtp × ℕ × ℕ) RtpFault
rtp_read bytes = elim (first_of (rtp_refusals bytes)) [ None ↦ Ok (rtp_of bytes, payload_begin bytes, payload_end bytes) | Some fault ↦ Err fault ]
