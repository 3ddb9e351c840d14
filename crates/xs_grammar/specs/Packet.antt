-- A packet, a line of some bands: 'Slice, precinct and packet'.
use Rattle.std.specs.Prelude.{◌≡◌, ℕ, Bool, if◌then◌else◌, List, [], ◌∷◌, ◌++◌, length}
use Rattle.std.specs.Bool.{MatchBool}
use Rattle.std.specs.List.{flat_map}
use Rattle.xs_params.specs.declared.header.Header.{Header}
use Rattle.xs_lists.specs.Bits.{bits_of_bytes, bits_of_fields, FieldsFit, bit_of}
use Rattle.xs_lists.specs.Spelling.{BeginsAs, SpellsEach, SpellsBits, SpellsPadded}
use Rattle.xs_spelling.specs.Counts.{Line, flag_bits, SpellsCounts, SpellsRawCounts}
use Rattle.xs_spelling.specs.Data.{SpellsData, sign_bits}

-- the fields of a packet header: whether the counts are raw, and the bytes of data, counts and signs; they are wider where the picture has long heads
abbrev pub packet_fields : Bool → Bool → ℕ → ℕ → ℕ → List (ℕ × ℕ)
packet_fields long raw planes counts signs =
    (1, bit_of raw)
    ∷ (if long then 20 else 15, planes)
    ∷ (if long then 20 else 13, counts)
    ∷ (if long then 15 else 11, signs)
    ∷ []

-- the bits spell the counts of the bands' lines
abbrev pub SpellsBandCounts : Bool → ℕ → List ℕ → (ℕ → Line) → (ℕ → ℕ → ℕ) → List ℕ → Type 0
SpellsBandCounts raw run_mode bands line flag bits =
    MatchBool raw (SpellsEach (λ band. SpellsRawCounts (line band)) bands bits) (SpellsEach (λ band. SpellsCounts run_mode (line band) (flag band)) bands bits)

-- The bytes are a packet of the bands' lines: its header, significance flags, counts, data, and the signs where they stand apart.
-- Flags are padded to a byte; each other part has the stated size, of which it may need less.
pub record IsPacket (h : Header) (bands : List ℕ) (line : ℕ → Line) (bytes : List ℕ) : Type 0 where
  pub raw : Bool
  pub head : List ℕ
  pub significance : List ℕ
  pub counts : List ℕ
  pub planes : List ℕ
  pub signs : List ℕ
  pub joined : bytes ≡ head ++ (significance ++ (counts ++ (planes ++ signs)))
  -- the size of the signs is stated, but has no effect where they do not stand apart
  pub stated : ℕ
  pub room : FieldsFit (packet_fields h.long_heads raw (length planes) (length counts) stated)
  pub headed : bits_of_bytes head ≡ bits_of_fields (packet_fields h.long_heads raw (length planes) (length counts) stated)
  -- by band and significance group
  pub flag : ℕ → ℕ → ℕ
  pub flagged : SpellsPadded significance (if raw then [] else flat_map (λ band. flag_bits (line band) (flag band)) bands)
  pub counted : BeginsAs (SpellsBandCounts raw h.run_mode bands line flag) (bits_of_bytes counts)
  pub filled : BeginsAs (SpellsEach (λ band. SpellsData h.signs_apart (line band)) bands) (bits_of_bytes planes)
  pub signed : MatchBool h.signs_apart
      ((stated ≡ length signs) × SpellsBits signs (flat_map (λ band. sign_bits (line band)) bands))
      (signs ≡ [])
