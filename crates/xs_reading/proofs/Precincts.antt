-- Precincts without a fault are those of the content that is read.
use Rattle.std.proofs.Common.{◌≡◌, ℕ, zero, suc, ◌+◌, ◌-◌, ◌*◌, ◌≤◌, List, [], ◌∷◌, ◌++◌, map, length, take, drop, refl, sym, ap, subst, ◌∙◌, arith, append-nil}
use Rattle.std.specs.Prelude.{Bool, true, false, ◌||◌, nat_eq, nat_lt, if◌then◌else◌, None}
use Rattle.std.specs.List.{range_with_len}
use Rattle.std.proofs.Math.Seq.{take-add}
use Rattle.std.proofs.lemmas.Bool.{eqb-true, eq-eqb, ltb-false}
use Rattle.std.proofs.lemmas.List.{length-take-le}
use Rattle.xs_lists.specs.Bits.{bits_of, bits_of_bytes, bits_of_fields, bytes_for, FieldsFit}
use Rattle.xs_lists.specs.First.{when, first_some}
use Rattle.xs_lists.specs.Packing.{AreBits}
use Rattle.xs_lists.specs.Spelling.{upto, SpellsPadded}
use Rattle.xs_lists.proofs.Bits.{length-bits_of_bytes}
use Rattle.xs_lists.proofs.Cut.{all-each}
use Rattle.xs_faults.specs.declared.PrecinctFault.TheVariants as fault
use Rattle.xs_params.specs.Geometry.{bands_of, packets_of}
use Rattle.xs_grammar.specs.Precinct.{precinct_of, precinct_fields}
use Rattle.xs_reading.specs.Packet.{field_at}
use Rattle.xs_reading.specs.Precinct.{precinct_head_size, stated_size, q_at, r_at, mode_at, precinct_end, body_at, begun, packets_fault, with_precinct}
use Rattle.xs_reading.specs.Laws.{PrecinctSpelled, PrecinctElsewhere}
use Rattle.xs_reading.proofs.Parts.{bytes-drop, bytes-take, none_first, none_when, bytes-are, take-bytes, field-small, field-bits, five_parts, length-drop}
use Rattle.xs_reading.proofs.Places.{IsBandOf, IsOfPrecinct, packets_ordered, packets_own}
use Rattle.xs_reading.proofs.Spelled.{or-false}
use Rattle.xs_reading.proofs.Contents.{ArePacketsSpelled, packets_settings, packets_leave, packets_spelled}
use Rattle.xs_spelling.proofs.Redata.{drop-drop}

-- Headers

abbrev pub mode_fields : List ℕ → List ℕ → List (ℕ × ℕ)
mode_fields bits bands = map (λ band. (2, field_at bits (40 + 2 * band) 2)) bands

modes_read : (bits : List ℕ) → AreBits bits → (first n : ℕ) → 40 + 2 * (first + n) ≤ length bits
    → FieldsFit (mode_fields bits (range_with_len first n)) × (take (2 * n) (drop (40 + 2 * first) bits) ≡ bits_of_fields (mode_fields bits (range_with_len first n)))
modes_read bits are first zero room = (tt, refl)
modes_read bits are first (suc n) room =
    let rest = modes_read bits are (first + 1) n (omega (arith, room)) in
    let size : 2 * suc n ≡ 2 + 2 * n = omega arith in
    let next : 40 + 2 * first + 2 ≡ 40 + 2 * (first + 1) = omega arith in (
      (field-small bits (40 + 2 * first) 2 are (omega (arith, room)), rest.0),
      ap (λ k. take k (drop (40 + 2 * first) bits)) size ∙ take-add 2 (2 * n) (drop (40 + 2 * first) bits)
          ∙ ap (λ l. l ++ take (2 * n) (drop 2 (drop (40 + 2 * first) bits))) (sym (field-bits bits (40 + 2 * first) 2 are (omega (arith, room))))
          ∙ ap (λ l. bits_of 2 (field_at bits (40 + 2 * first) 2) ++ take (2 * n) l) (sym (drop-drop (40 + 2 * first) 2 bits) ∙ ap (λ k. drop k bits) next)
          ∙ ap (λ l. bits_of 2 (field_at bits (40 + 2 * first) 2) ++ l) rest.1,
    )

abbrev pub head_read_fields : List ℕ → ℕ → List (ℕ × ℕ)
head_read_fields bits n = (24, field_at bits 0 24) ∷ (8, field_at bits 24 8) ∷ (8, field_at bits 32 8) ∷ mode_fields bits (upto n)

pub head_read : (bits : List ℕ) (n : ℕ) → AreBits bits → 40 + 2 * n ≤ length bits → FieldsFit (head_read_fields bits n) × (take (40 + 2 * n) bits ≡ bits_of_fields (head_read_fields bits n))
head_read bits n are room =
    let modes = modes_read bits are 0 n (omega (arith, room)) in
    let size : 40 + 2 * n ≡ 24 + 8 + 8 + 2 * n + 0 = omega arith in (
      (field-small bits 0 24 are (omega (arith, room)), (field-small bits 24 8 are (omega (arith, room)), (field-small bits 32 8 are (omega (arith, room)), modes.0))),
      ap (λ k. take k bits) size ∙ five_parts 24 8 8 (2 * n) 0 bits
          ∙ pieces (sym (field-bits bits 0 24 are (omega (arith, room)))) (sym (field-bits bits 24 8 are (omega (arith, room)))) (sym (field-bits bits 32 8 are (omega (arith, room)))) (append-nil (take (2 * n) (drop 40 bits)) ∙ modes.1),
    )
  where
    pieces : {p q r s p' q' r' s' : List ℕ} → p ≡ p' → q ≡ q' → r ≡ r' → s ≡ s' → p ++ (q ++ (r ++ s)) ≡ p' ++ (q' ++ (r' ++ s'))
    pieces e f g k = cc (e, f, g, k)

-- Precincts

pub precinct_spelled : PrecinctSpelled
precinct_spelled h precinct content bytes accepted are range none = record {
  within = within;
  spelled = record {
    head = take (precinct_head_size h) bytes;
    body = body_at h bytes;
    joined = take-add (precinct_head_size h) (stated_size bytes) bytes;
    mode = mode_at bytes;
    room = subst FieldsFit (sym fields-are-read) fields.0;
    headed = subst (λ f. SpellsPadded (take (precinct_head_size h) bytes) (bits_of_fields f)) (sym fields-are-read) headed;
    filled = (packets.front, packets.rest, packets.joined, packets.spelled);
  };
  range = packets.range;
}
  where
    bits : List ℕ
    bits = bits_of_bytes bytes

    two : (when (nat_lt (length bytes) (precinct_head_size h) || nat_lt (length bytes) (precinct_end h bytes)) fault.Truncated ≡ None)
        × (first_some (packets_fault h (mode_at bytes) 0 (packets_of h precinct) (begun content precinct bytes) (body_at h bytes) ∷ []) ≡ None)
    two = none_first (when (nat_lt (length bytes) (precinct_head_size h) || nat_lt (length bytes) (precinct_end h bytes)) fault.Truncated) (packets_fault h (mode_at bytes) 0 (packets_of h precinct) (begun content precinct bytes) (body_at h bytes) ∷ []) none

    long : (nat_lt (length bytes) (precinct_head_size h) ≡ false) × (nat_lt (length bytes) (precinct_end h bytes) ≡ false)
    long = or-false (nat_lt (length bytes) (precinct_head_size h)) (nat_lt (length bytes) (precinct_end h bytes)) (none_when (nat_lt (length bytes) (precinct_head_size h) || nat_lt (length bytes) (precinct_end h bytes)) fault.Truncated two.0)

    head-in : precinct_head_size h ≤ length bytes
    head-in = ltb-false (length bytes) (precinct_head_size h) long.0

    within : precinct_end h bytes ≤ length bytes
    within = ltb-false (length bytes) (precinct_end h bytes) long.1

    packets : ArePacketsSpelled h (mode_at bytes) (packets_of h precinct) (begun content precinct bytes) (body_at h bytes)
    packets = packets_spelled h (mode_at bytes) 0 (packets_of h precinct) (begun content precinct bytes) (body_at h bytes) (packets_ordered h precinct) range (bytes-take (stated_size bytes) (drop (precinct_head_size h) bytes) (bytes-drop (precinct_head_size h) bytes are))
        (none_first (packets_fault h (mode_at bytes) 0 (packets_of h precinct) (begun content precinct bytes) (body_at h bytes)) [] two.1).0

    bits-long : length bits ≡ 8 * length bytes
    bits-long = length-bits_of_bytes bytes

    fields : FieldsFit (head_read_fields bits (bands_of h)) × (take (40 + 2 * bands_of h) bits ≡ bits_of_fields (head_read_fields bits (bands_of h)))
    fields = head_read bits (bands_of h) (bytes-are bytes) (omega (arith, bits-long, head-in))

    body-long : length (body_at h bytes) ≡ stated_size bytes
    body-long = length-take-le (stated_size bytes) (drop (precinct_head_size h) bytes) (omega (arith, within, length-drop (precinct_head_size h) bytes))

    settings : ((with_precinct h precinct content bytes).q ≡ (begun content precinct bytes).q) × ((with_precinct h precinct content bytes).r ≡ (begun content precinct bytes).r)
    settings = packets_settings h (mode_at bytes) (packets_of h precinct) (begun content precinct bytes) (body_at h bytes)

    here : (a b : ℕ) → (if nat_eq precinct precinct then a else b) ≡ a
    here a b = ap (λ t. if t then a else b) (eq-eqb precinct precinct refl)

    fields-are-read : precinct_fields h (with_precinct h precinct content bytes) precinct (length (body_at h bytes)) (mode_at bytes) ≡ head_read_fields bits (bands_of h)
    fields-are-read =
        ap (λ n. (24, n) ∷ (8, (with_precinct h precinct content bytes).q precinct) ∷ (8, (with_precinct h precinct content bytes).r precinct) ∷ mode_fields bits (upto (bands_of h))) body-long
        ∙ ap (λ n. (24, stated_size bytes) ∷ (8, n) ∷ (8, (with_precinct h precinct content bytes).r precinct) ∷ mode_fields bits (upto (bands_of h))) (ap (λ f. f precinct) settings.0 ∙ here (q_at bytes) (content.q precinct))
        ∙ ap (λ n. (24, stated_size bytes) ∷ (8, q_at bytes) ∷ (8, n) ∷ mode_fields bits (upto (bands_of h))) (ap (λ f. f precinct) settings.1 ∙ here (r_at bytes) (content.r precinct))

    headed : SpellsPadded (take (precinct_head_size h) bytes) (bits_of_fields (head_read_fields bits (bands_of h)))
    headed =
        let all : 8 * precinct_head_size h ≡ 40 + 2 * bands_of h + (8 * precinct_head_size h - (40 + 2 * bands_of h)) = omega arith in
        let size : length (bits_of_fields (head_read_fields bits (bands_of h))) ≡ 40 + 2 * bands_of h = ap length (sym fields.1) ∙ length-take-le (40 + 2 * bands_of h) bits (omega (arith, bits-long, head-in)) in
        record {
          begin = (
            take (8 * precinct_head_size h - (40 + 2 * bands_of h)) (drop (40 + 2 * bands_of h) bits),
            take-bytes (precinct_head_size h) bytes head-in ∙ ap (λ k. take k bits) all ∙ take-add (40 + 2 * bands_of h) (8 * precinct_head_size h - (40 + 2 * bands_of h)) bits
                ∙ ap (λ l. l ++ take (8 * precinct_head_size h - (40 + 2 * bands_of h)) (drop (40 + 2 * bands_of h) bits)) fields.1,
          );
          size = length-take-le (precinct_head_size h) bytes head-in ∙ ap bytes_for (sym size);
        }

pub precinct_elsewhere : PrecinctElsewhere
precinct_elsewhere h precinct content bytes below = record {
  q = λ other apart. ap (λ f. f other) settings.0 ∙ there other (q_at bytes) (content.q other) apart;
  r = λ other apart. ap (λ f. f other) settings.1 ∙ there other (r_at bytes) (content.r other) apart;
  count = λ band line apart. (left band line apart).0;
  value = λ band line apart. (left band line apart).1;
}
  where
    settings : ((with_precinct h precinct content bytes).q ≡ (begun content precinct bytes).q) × ((with_precinct h precinct content bytes).r ≡ (begun content precinct bytes).r)
    settings = packets_settings h (mode_at bytes) (packets_of h precinct) (begun content precinct bytes) (body_at h bytes)

    there : (other a b : ℕ) → (other ≡ precinct → ⊥) → (if nat_eq other precinct then a else b) ≡ b
    there other a b apart = cases (nat_eq other precinct) refl
      where
        cases : (t : Bool) → nat_eq other precinct ≡ t → (if t then a else b) ≡ b
        cases false e = refl
        cases true e = absurd (apart (eqb-true other precinct e))

    left : (band line : ℕ) → (precinct_of h band line ≡ precinct → ⊥) → ((with_precinct h precinct content bytes).count band line ≡ content.count band line) × ((with_precinct h precinct content bytes).value band line ≡ content.value band line)
    left band line apart = packets_leave h (mode_at bytes) (packets_of h precinct) (begun content precinct bytes) (body_at h bytes) band line
        (all-each (IsOfPrecinct h precinct) (λ place. IsBandOf h place band → line ≡ place.line → ⊥) (packets_of h precinct) (λ place own of e. apart (ap (precinct_of h band) e ∙ own band of)) (packets_own h precinct below))
