-- What is written is in the grammar: packets, precincts and slices.
use Rattle.std.proofs.Common.{◌≡◌, ℕ, ◌+◌, ◌-◌, ◌*◌, ◌/◌, ◌^◌, ◌<◌, ◌≤◌, List, [], ◌∷◌, map, length, replicate, refl, sym, ap, subst, ◌∙◌, arith, length-append}
use Rattle.std.specs.Prelude.{Bool, true, false, nat_lt, max, not, ◌&&◌, if◌then◌else◌, unsigned_abs}
use Rattle.std.specs.Bool.{MatchBool}
use Rattle.std.specs.List.{flat_map, list_all, AllByRecursion}
use Rattle.std.proofs.lemmas.Bool.{and_parts, and_from, ltb-true, lt-ltb}
use Rattle.xs_params.specs.declared.header.Header.{Header}
use Rattle.xs_layout.specs.Geometry.{PacketPlace, groups_of}
use Rattle.xs_lists.specs.Bits.{bits_of, bits_of_bytes, bits_of_fields, FieldsFit}
use Rattle.xs_lists.specs.Packing.{missing_bits}
use Rattle.xs_lists.specs.Spelling.{upto, SpellsBits}
use Rattle.xs_lists.proofs.Bits.{length-bits_of}
use Rattle.xs_lists.proofs.Bitwise.{fields-are, join-are}
use Rattle.xs_lists.proofs.Cut.{all-each, all-both}
use Rattle.xs_lists.proofs.Each.{each-made, range-all}
use Rattle.xs_lists.proofs.Packing.{packed_whole, spells_packed}
use Rattle.xs_lists.proofs.Walk.{all-of_map}
use Rattle.xs_spelling.specs.Counts.{Line, predicts_above, flag_bits}
use Rattle.xs_spelling.specs.Data.{columns_of, sign_bits}
use Rattle.xs_spelling.specs.Written.{written_flag, is_small, has_small_data, has_line_bits, line_count_bits, line_data_bits, IsWritableCount}
use Rattle.xs_spelling.proofs.Bitwise.{flags-are, counts-are, data-are, signs-are}
use Rattle.xs_spelling.proofs.Flags.{list_all-range, has_written_line}
use Rattle.xs_params.specs.Geometry.{bands_of, band_width_of, packet_bands, packets_of, precincts_of}
use Rattle.xs_grammar.specs.Packet.{IsPacket, packet_fields}
use Rattle.xs_grammar.specs.Precinct.{Content, coded_line, line_truncation, prediction_of, is_first_line, precinct_fields, IsPrecinct, SpellsPacket}
use Rattle.xs_grammar.specs.Coded.{field_bytes, fields_fit, flags_part, counts_part, data_part, signs_part, lines_fields, lines_bytes, packet_line, packet_bytes, packet_fits, packets_bytes, precinct_body, precinct_bytes, precinct_fits, IsWritableLine, IsWritablePrecinct, slice_bytes, IsWritable}
use Rattle.xs_grammar.specs.Laws.{WrittenSlice, SliceReadAgain}
use Rattle.xs_grammar.proofs.OneSlice.{one_slice}
use Rattle.xs_grammar.proofs.Written.{Parts, packet_written}

-- Tests of lists

pub all-list_all : {A : Type 0} (P : A → Type 0) (test : A → Bool) → ((x : A) → P x → test x ≡ true) → (xs : List A) → AllByRecursion P xs → list_all test xs ≡ true
all-list_all P test h [] p = refl
all-list_all P test h (x ∷ xs) p = and_from (test x) (list_all test xs) (h x p.0) (all-list_all P test h xs p.1)

pub list_all-all : {A : Type 0} (test : A → Bool) (xs : List A) → list_all test xs ≡ true → AllByRecursion (λ x. test x ≡ true) xs
list_all-all test [] h = tt
list_all-all test (x ∷ xs) h = let both = and_parts (test x) (list_all test xs) h in (both.0, list_all-all test xs both.1)

-- Fields

abbrev pub widths : List (ℕ × ℕ) → ℕ
widths [] = 0
widths (field ∷ fields) = field.0 + widths fields

pub length-widths : (fields : List (ℕ × ℕ)) → length (bits_of_fields fields) ≡ widths fields
length-widths [] = refl
length-widths (field ∷ fields) = omega (arith, length-append (bits_of field.0 field.1) (bits_of_fields fields), length-bits_of field.0 field.1, length-widths fields)

pub fits-room : (fields : List (ℕ × ℕ)) → fields_fit fields ≡ true → FieldsFit fields
fits-room [] h = tt
fits-room (field ∷ fields) h = let both = and_parts (nat_lt field.1 (2 ^ field.0)) (fields_fit fields) h in (ltb-true field.1 (2 ^ field.0) both.0, fits-room fields both.1)

-- fields that end at a byte
pub fields_whole : (fields : List (ℕ × ℕ)) → missing_bits (widths fields) ≡ 0 → bits_of_bytes (field_bytes fields) ≡ bits_of_fields fields
fields_whole fields whole = packed_whole (bits_of_fields fields) (fields-are fields) (ap missing_bits (length-widths fields) ∙ whole)

-- Packets

-- a line that can be written
pub record CanBeWritten (line : Line) : Type 0 where
  pub counts : (group : ℕ) → group < line.groups → IsWritableCount line group
  pub numbers : has_small_data line ≡ true

head_whole : (long raw : Bool) (planes counts signs : ℕ) → missing_bits (widths (packet_fields long raw planes counts signs)) ≡ 0
head_whole true raw planes counts signs = refl
head_whole false raw planes counts signs = refl

signs_written : (apart : Bool) (bands : List ℕ) (line : ℕ → Line)
    → MatchBool apart ((length (signs_part apart bands line) ≡ length (signs_part apart bands line)) × SpellsBits (signs_part apart bands line) (flat_map (λ band. sign_bits (line band)) bands)) (signs_part apart bands line ≡ [])
signs_written true bands line = (refl, (spells_packed (flat_map (λ band. sign_bits (line band)) bands) (join-are (λ band. sign_bits (line band)) (λ band. signs-are (line band)) bands)).begin)
signs_written false bands line = refl

pub lines_written : (h : Header) (bands : List ℕ) (line : ℕ → Line) → h.run_mode ≡ 0 → fields_fit (lines_fields h bands line) ≡ true → AllByRecursion (λ band. CanBeWritten (line band)) bands
    → IsPacket h bands line (lines_bytes h bands line)
lines_written h bands line plain fits can = packet_written h bands line false (λ band. written_flag (line band)) (length (signs_part h.signs_apart bands line))
    (field_bytes (lines_fields h bands line)) (flags_part bands line) (counts_part bands line) (data_part h.signs_apart bands line) (signs_part h.signs_apart bands line) parts
  where
    tested : (run_mode : ℕ) → run_mode ≡ 0 → list_all (λ band. has_line_bits false run_mode (line band) (written_flag (line band))) bands ≡ true
    tested run_mode e = subst (λ r. list_all (λ band. has_line_bits false r (line band) (written_flag (line band))) bands ≡ true) (sym e)
        (all-list_all (λ band. CanBeWritten (line band)) (λ band. has_line_bits false 0 (line band) (written_flag (line band))) (λ band p. has_written_line (line band) p.counts) bands can)

    parts : Parts h bands line false (λ band. written_flag (line band)) (length (signs_part h.signs_apart bands line))
        (field_bytes (lines_fields h bands line)) (flags_part bands line) (counts_part bands line) (data_part h.signs_apart bands line) (signs_part h.signs_apart bands line)
    parts = record {
      room = fits-room (lines_fields h bands line) fits;
      headed = fields_whole (lines_fields h bands line) (head_whole h.long_heads false (length (data_part h.signs_apart bands line)) (length (counts_part bands line)) (length (signs_part h.signs_apart bands line)));
      flagged = spells_packed (flat_map (λ band. flag_bits (line band) (written_flag (line band))) bands) (join-are (λ band. flag_bits (line band) (written_flag (line band))) (λ band. flags-are (line band)) bands);
      counted = (spells_packed (flat_map (λ band. line_count_bits false (line band) (written_flag (line band))) bands)
          (join-are (λ band. line_count_bits false (line band) (written_flag (line band))) (λ band. counts-are (line band) (written_flag (line band))) bands)).begin;
      filled = (spells_packed (flat_map (λ band. line_data_bits h.signs_apart (line band)) bands) (join-are (λ band. line_data_bits h.signs_apart (line band)) (λ band. data-are h.signs_apart (line band)) bands)).begin;
      signed = signs_written h.signs_apart bands line;
      has_counts = tested h.run_mode plain;
      has_data = all-list_all (λ band. CanBeWritten (line band)) (λ band. has_small_data (line band)) (λ band p. p.numbers) bands can;
    }

-- Lines of a content

-- a prediction is never below the truncation
pub predicted : (h : Header) (content : Content) (mode band line group : ℕ) → line_truncation h content band line ≤ prediction_of h content mode band line group
predicted h content mode band line group = cases (predicts_above mode && not (is_first_line h band line))
  where
    cases : (above : Bool) → line_truncation h content band line
        ≤ (if above then max (max (content.count band (line - 1) group) (line_truncation h content band (line - 1))) (line_truncation h content band line) else line_truncation h content band line)
    cases true = omega arith
    cases false = omega arith

pub line_can : (h : Header) (content : Content) (mode band line : ℕ) → IsWritableLine h content band line → CanBeWritten (coded_line h content mode band line)
line_can h content mode band line p = record {
  counts = λ group inside. record { most = p.most group inside; cut = p.cut group inside; predicted = predicted h content mode band line group };
  numbers = list_all-range (λ group. list_all (is_small (coded_line h content mode band line) group) (columns_of group)) 0 (groups_of (band_width_of h band))
      (λ group low high. list_all-range (is_small (coded_line h content mode band line) group) (4 * group) 4 (λ column from to. small group column (omega (arith, high)) from to));
}
  where
    small : (group column : ℕ) → group < groups_of (band_width_of h band) → 4 * group ≤ column → column < 4 * group + 4 → is_small (coded_line h content mode band line) group column ≡ true
    small group column inside from to =
        let here : column / 4 ≡ group = omega (arith, from, to) in
        lt-ltb (unsigned_abs (content.value band line column)) (2 ^ (content.count band line group - line_truncation h content band line))
        (subst (λ g. unsigned_abs (content.value band line column) < 2 ^ (content.count band line g - line_truncation h content band line)) here (p.small column (omega (arith, inside, to))))

pub packet_coded : (h : Header) (content : Content) (mode : ℕ → ℕ) (place : PacketPlace) → h.run_mode ≡ 0 → packet_fits h content mode place ≡ true
    → AllByRecursion (λ band. IsWritableLine h content band place.line) (packet_bands h place) → SpellsPacket h content mode place (packet_bytes h content mode place)
packet_coded h content mode place plain fits can =
    lines_written h (packet_bands h place) (packet_line h content mode place) plain fits
    (all-each (λ band. IsWritableLine h content band place.line) (λ band. CanBeWritten (packet_line h content mode place band)) (packet_bands h place) (λ band p. line_can h content (mode band) band place.line p) can)

-- Precincts

pub precinct_coded : (h : Header) (content : Content) (mode : ℕ → ℕ → ℕ) (filler : ℕ → ℕ) (precinct : ℕ) → h.run_mode ≡ 0 → precinct_fits h content mode filler precinct ≡ true → IsWritablePrecinct h content mode precinct
    → IsPrecinct h content precinct (precinct_bytes h content mode filler precinct)
precinct_coded h content mode filler precinct plain fits can = record {
  head = field_bytes fields;
  body = precinct_body h content mode filler precinct;
  joined = refl;
  mode = mode precinct;
  room = (size, (can.q, (can.r, modes)));
  headed = spells_packed (bits_of_fields fields) (fields-are fields);
  filled = (packets_bytes h content mode precinct, replicate (filler precinct) 0, refl, each-made (SpellsPacket h content (mode precinct)) (packet_bytes h content (mode precinct)) (packets_of h precinct) packets);
}
  where
    fields : List (ℕ × ℕ)
    fields = precinct_fields h content precinct (length (precinct_body h content mode filler precinct)) (mode precinct)

    both : (list_all (packet_fits h content (mode precinct)) (packets_of h precinct) ≡ true) × (nat_lt (length (precinct_body h content mode filler precinct)) (2 ^ 24) ≡ true)
    both = and_parts (list_all (packet_fits h content (mode precinct)) (packets_of h precinct)) (nat_lt (length (precinct_body h content mode filler precinct)) (2 ^ 24)) fits

    size : length (precinct_body h content mode filler precinct) < 2 ^ 24
    size = ltb-true (length (precinct_body h content mode filler precinct)) (2 ^ 24) both.1

    modes : FieldsFit (map (λ band. (2, mode precinct band)) (upto (bands_of h)))
    modes = all-of_map (λ (field : ℕ × ℕ). field.1 < 2 ^ field.0) (λ band. (2, mode precinct band)) (upto (bands_of h)) (range-all (λ band. mode precinct band < 4) 0 (bands_of h) (λ band low high. can.modes band (omega (arith, high))))

    packets : AllByRecursion (λ place. SpellsPacket h content (mode precinct) place (packet_bytes h content (mode precinct) place)) (packets_of h precinct)
    packets = all-both (λ place. packet_fits h content (mode precinct) place ≡ true) (λ place. AllByRecursion (λ band. IsWritableLine h content band place.line) (packet_bands h place)) _ (packets_of h precinct)
        (λ place fits can. packet_coded h content (mode precinct) place plain fits can) (list_all-all (packet_fits h content (mode precinct)) (packets_of h precinct) both.0) can.lines

-- Slices

pub written_slice : WrittenSlice
written_slice h content mode filler slice plain index can fits = record {
  index = index;
  body = flat_map (precinct_bytes h content mode filler) (precincts_of h slice);
  joined = refl;
  spelled = each-made (IsPrecinct h content) (precinct_bytes h content mode filler) (precincts_of h slice)
      (all-both (λ precinct. precinct_fits h content mode filler precinct ≡ true) (IsWritablePrecinct h content mode) _ (precincts_of h slice)
      (λ precinct fits can. precinct_coded h content mode filler precinct plain fits can) (list_all-all (precinct_fits h content mode filler) (precincts_of h slice) fits) can);
}

pub slice_read_again : SliceReadAgain
slice_read_again h content other mode filler slice bytes y z plain below index can fits p e =
    one_slice h content other slice (slice_bytes h content mode filler slice) bytes y z below (written_slice h content mode filler slice plain index can fits) p e

-- Where each line of each band can be written, a slice is writable as soon as the fields of its precincts have room.
pub writable_everywhere : (h : Header) (content : Content) (mode : ℕ → ℕ → ℕ) (slice : ℕ) → ((precinct : ℕ) → (content.q precinct < 2 ^ 8) × (content.r precinct < 2 ^ 8)) → ((precinct band : ℕ) → mode precinct band < 4)
    → ((band line : ℕ) → IsWritableLine h content band line) → IsWritable h content mode slice
writable_everywhere h content mode slice settings modes lines = all-made (IsWritablePrecinct h content mode) precinct (precincts_of h slice)
  where
    all-made : {A : Type 0} (P : A → Type 0) → ((x : A) → P x) → (xs : List A) → AllByRecursion P xs
    all-made P h [] = tt
    all-made P h (x ∷ xs) = (h x, all-made P h xs)

    precinct : (precinct : ℕ) → IsWritablePrecinct h content mode precinct
    precinct k = record {
      q = (settings k).0;
      r = (settings k).1;
      modes = λ band inside. modes k band;
      lines = all-made (λ place. AllByRecursion (λ band. IsWritableLine h content band place.line) (packet_bands h place))
          (λ place. all-made (λ band. IsWritableLine h content band place.line) (λ band. lines band place.line) (packet_bands h place)) (packets_of h k);
    }
