-- Bytes are read as a packet exactly where they are one.
use Rattle.std.proofs.Common.{◌≡◌, ℕ, zero, suc, ◌+◌, ◌-◌, ◌*◌, ◌%◌, ◌^◌, ◌<◌, ◌≤◌, List, [], ◌∷◌, ◌++◌, length, take, drop, get_or, map, Bool, true, false, refl, sym, ap, subst, ◌∙◌, arith, append-nil, length-append, Option, None, Some, Result, Ok, Err}
use Rattle.std.specs.Prelude.{nat_eq, nat_lt, not, ◌&&◌, ◌||◌, if◌then◌else◌, slice_range, MatchBool}
use Rattle.std.specs.Int.{to_be_bytes, from_be_bytes, w16, w32}
use Rattle.std.specs.List.{AllByRecursion, flat_map}
use Rattle.std.proofs.Math.Dec.{eqb-suc-zero}
use Rattle.std.proofs.Math.Seq.{take-add}
use Rattle.std.proofs.lemmas.Bool.{eqb-true, ltb-false, le-ltb}
use Rattle.std.proofs.lemmas.List.{append_assoc, drop_at, drop-drop, get_or-append_right, get_or-drop, length-drop, length-take-le, take_all, take_at, take_more, take-append-drop}
use Rattle.std.proofs.lemmas.List.Concat.{flat_map-append}
use Rattle.std.proofs.lemmas.Nat.{be_bytes_2, be_bytes_4, from_be_bytes-to_be_bytes_2}
use Rattle.xs_lists.specs.Bits.{bits_of, bit_of, bits_of_bytes, bits_of_fields, FieldsFit}
use Rattle.xs_lists.specs.Fields.{field, has_bit, half_word_at, word_at}
use Rattle.xs_lists.specs.First.{first_of}
use Rattle.xs_lists.specs.Packing.{AreBytes}
use Rattle.xs_lists.proofs.Bits.{bits_mod, length-bits_of, length-bits_of_bytes}
use Rattle.xs_lists.proofs.Cut.{fields_agree}
use Rattle.xs_lists.proofs.FieldBits.{bits_of-bit, bits_of-field, bits_of-low}
use Rattle.xs_rtp.specs.declared.packet.Rtp.{Rtp}
use Rattle.xs_rtp.specs.declared.packet.RtpFault.{RtpFault}
use Rattle.xs_rtp.specs.Packet.{has_extension, has_padding, IsExtension, IsPadding, IsRtp, padding_count, payload_begin, payload_end, rtp_fields, rtp_of, rtp_read, rtp_refusals, sources_end, version_of}
use Rattle.xs_rtp.specs.Laws.{PacketIsRead}
use Rattle.xs_rtp.proofs.Again.{bit_below, reads}

-- Parts of bytes

-- up to a place, and from there to a later one
front_more : (xs : List ℕ) (i j : ℕ) → i ≤ j → take j xs ≡ take i xs ++ slice_range xs i j
front_more xs i j order = let e : i + (j - i) ≡ j = omega arith in ap (λ k. take k xs) (sym e) ∙ take-add i (j - i) xs

part_more : (xs : List ℕ) (i j k : ℕ) → i ≤ j → j ≤ k → slice_range xs i k ≡ slice_range xs i j ++ slice_range xs j k
part_more xs i j k first second =
    let sum : j - i + (k - j) ≡ k - i = omega arith in
    let at : i + (j - i) ≡ j = omega arith in
    ap (λ n. take n (drop i xs)) (sym sum) ∙ take-add (j - i) (k - j) (drop i xs)
    ∙ ap (λ l. slice_range xs i j ++ take (k - j) l) (drop-drop (j - i) i xs ∙ ap (λ n. drop n xs) at)

part_length : (xs : List ℕ) (i j : ℕ) → i ≤ j → j ≤ length xs → length (slice_range xs i j) ≡ j - i
part_length xs i j order inside = length-take-le (j - i) (drop i xs) (omega (arith, length-drop i xs))

take_are : (n : ℕ) (xs : List ℕ) → AreBytes xs → AreBytes (take n xs)
take_are zero xs all = tt
take_are (suc n) [] all = tt
take_are (suc n) (x ∷ xs) all = (all.0, take_are n xs all.1)

drop_are : (n : ℕ) (xs : List ℕ) → AreBytes xs → AreBytes (drop n xs)
drop_are zero xs all = all
drop_are (suc n) [] all = tt
drop_are (suc n) (x ∷ xs) all = drop_are n xs all.1

each_byte : (xs : List ℕ) → AreBytes xs → (i : ℕ) → get_or xs i 0 < 256
each_byte [] all zero = omega arith
each_byte [] all (suc i) = omega arith
each_byte (x ∷ xs) all zero = all.0
each_byte (x ∷ xs) all (suc i) = each_byte xs all.1 i

-- Words

word_bytes : (xs : List ℕ) (at : ℕ) → AreBytes xs → at + 4 ≤ length xs → to_be_bytes w32 (word_at xs at) ≡ take 4 (drop at xs)
word_bytes xs at all room =
    be_bytes_4 (take 4 (drop at xs)) (word_at xs at) (length-take-le 4 (drop at xs) (omega (arith, length-drop at xs, room))) (each_byte (take 4 (drop at xs)) (take_are 4 (drop at xs) (drop_are at xs all))) refl

half_word_bytes : (xs : List ℕ) (at : ℕ) → AreBytes xs → at + 2 ≤ length xs → to_be_bytes w16 (half_word_at xs at) ≡ take 2 (drop at xs)
half_word_bytes xs at all room =
    be_bytes_2 (take 2 (drop at xs)) (half_word_at xs at) (length-take-le 2 (drop at xs) (omega (arith, length-drop at xs, room))) (each_byte (take 2 (drop at xs)) (take_are 2 (drop at xs) (drop_are at xs all))) refl

half_word_small : (xs : List ℕ) (at : ℕ) → AreBytes xs → half_word_at xs at < 2 ^ 16
half_word_small xs at all =
    let each = each_byte (take 2 (drop at xs)) (take_are 2 (drop at xs) (drop_are at xs all)) in
    omega (arith, each 0, each 1)

word_small : (xs : List ℕ) (at : ℕ) → AreBytes xs → word_at xs at < 2 ^ 32
word_small xs at all =
    let each = each_byte (take 4 (drop at xs)) (take_are 4 (drop at xs) (drop_are at xs all)) in
    omega (arith, each 0, each 1, each 2, each 3)

-- a field before bits that are equal
before : (width value : ℕ) (x y : List ℕ) → x ≡ y → bits_of width value ++ x ≡ bits_of width value ++ y
before width value x y e = ap (λ l. bits_of width value ++ l) e

word_bits : (word : ℕ) → bits_of_bytes (to_be_bytes w32 word) ≡ bits_of 32 word
word_bits word =
    before 8 (field 8 24 word) _ _ (
    before 8 (field 8 16 word) _ _ (
    before 8 (field 8 8 word) _ _ (
    append-nil (bits_of 8 (word % 256)) ∙ bits_mod 8 word)
    ∙ bits_of-field 8 8 word)
    ∙ bits_of-field 8 16 word)
    ∙ bits_of-field 8 24 word

-- The fixed header

-- the fields of the first word as they are read
abbrev first_fields : ℕ → List (ℕ × ℕ)
first_fields word =
    (2, field 2 30 word) ∷ (1, bit_of (has_bit 29 word)) ∷ (1, bit_of (has_bit 28 word)) ∷ (4, field 4 24 word) ∷ (1, bit_of (has_bit 23 word)) ∷ (7, field 7 16 word) ∷ (16, field 16 0 word) ∷ []

first_spelled : (word : ℕ) → bits_of_fields (first_fields word) ≡ bits_of 32 word
first_spelled word =
    before 2 (field 2 30 word) _ _ (
    before 1 (bit_of (has_bit 29 word)) _ _ (
    before 1 (bit_of (has_bit 28 word)) _ _ (
    before 4 (field 4 24 word) _ _ (
    before 1 (bit_of (has_bit 23 word)) _ _ (
    before 7 (field 7 16 word) _ _ (
    bits_of-low 16 word)
    ∙ bits_of-field 7 16 word)
    ∙ bits_of-bit 23 word)
    ∙ bits_of-field 4 24 word)
    ∙ bits_of-bit 28 word)
    ∙ bits_of-bit 29 word)
    ∙ bits_of-field 2 30 word

-- all fields as they are read
abbrev read_fields : List ℕ → List (ℕ × ℕ)
read_fields bytes = first_fields (word_at bytes 0) ++ (32, word_at bytes 4) ∷ (32, word_at bytes 8) ∷ []

fixed_spelled : (bytes : List ℕ) → AreBytes bytes → 12 ≤ length bytes → bits_of_bytes (take 12 bytes) ≡ bits_of_fields (read_fields bytes)
fixed_spelled bytes all enough =
    let zeroth = word_bytes bytes 0 all (omega (arith, enough)) in
    let fourth = word_bytes bytes 4 all (omega (arith, enough)) in
    let eighth = word_bytes bytes 8 all (omega (arith, enough)) in
    let cut : take 12 bytes ≡ to_be_bytes w32 (word_at bytes 0) ++ (to_be_bytes w32 (word_at bytes 4) ++ to_be_bytes w32 (word_at bytes 8)) =
    take-add 4 8 bytes ∙ ap (λ l. l ++ take 8 (drop 4 bytes)) (sym zeroth)
    ∙ ap (λ l. to_be_bytes w32 (word_at bytes 0) ++ l) (take-add 4 4 (drop 4 bytes) ∙ ap (λ l. take 4 (drop 4 bytes) ++ take 4 l) (drop-drop 4 4 bytes) ∙ ap (λ l. l ++ take 4 (drop 8 bytes)) (sym fourth) ∙ ap (λ l. to_be_bytes w32 (word_at bytes 4) ++ l) (sym eighth)) in
    ap bits_of_bytes cut
    ∙ flat_map-append (bits_of 8) (to_be_bytes w32 (word_at bytes 0)) (to_be_bytes w32 (word_at bytes 4) ++ to_be_bytes w32 (word_at bytes 8))
    ∙ ap (λ l. l ++ bits_of_bytes (to_be_bytes w32 (word_at bytes 4) ++ to_be_bytes w32 (word_at bytes 8))) (word_bits (word_at bytes 0))
    ∙ ap (λ l. bits_of 32 (word_at bytes 0) ++ l) (flat_map-append (bits_of 8) (to_be_bytes w32 (word_at bytes 4)) (to_be_bytes w32 (word_at bytes 8))
    ∙ ap (λ l. l ++ bits_of_bytes (to_be_bytes w32 (word_at bytes 8))) (word_bits (word_at bytes 4))
    ∙ ap (λ l. bits_of 32 (word_at bytes 4) ++ l) (word_bits (word_at bytes 8) ∙ sym (append-nil (bits_of 32 (word_at bytes 8)))))
    ∙ ap (λ l. l ++ bits_of_fields ((32, word_at bytes 4) ∷ (32, word_at bytes 8) ∷ [])) (sym (first_spelled (word_at bytes 0)))
    ∙ sym (flat_map-append (λ (f : ℕ × ℕ). bits_of f.0 f.1) (first_fields (word_at bytes 0)) ((32, word_at bytes 4) ∷ (32, word_at bytes 8) ∷ []))

read_room : (bytes : List ℕ) → AreBytes bytes → FieldsFit (read_fields bytes)
read_room bytes all =
    let word = word_at bytes 0 in (
      omega arith,
      (bit_below (has_bit 29 (word_at bytes 0)), (bit_below (has_bit 28 (word_at bytes 0)), (omega arith, (bit_below (has_bit 23 (word_at bytes 0)), (omega arith, (omega arith, (word_small bytes 4 all, (word_small bytes 8 all, tt)))))))),
    )

-- What is read is a packet

-- the answer is that of no refusal
told : (bytes : List ℕ) (x : Rtp × ℕ × ℕ) → rtp_read bytes ≡ Ok x → (first_of (rtp_refusals bytes) ≡ None) × ((rtp_of bytes, payload_begin bytes, payload_end bytes) ≡ x)
unfolding rtp_read
told bytes x e = by_cases (first_of (rtp_refusals bytes)) e
  where
    by_cases : (o : Option RtpFault) → (elim o as (λ (y : Option RtpFault). Result (Rtp × ℕ × ℕ) RtpFault) [ None ↦ Ok (rtp_of bytes, payload_begin bytes, payload_end bytes) | Some fault ↦ Err fault ]) ≡ Ok x
        → (o ≡ None) × ((rtp_of bytes, payload_begin bytes, payload_end bytes) ≡ x)
    by_cases None same = (refl, cc same)
    by_cases (Some fault) same = absurd (cc same)

no_row : {A : Type 0} (rows : List (Bool × A)) → first_of rows ≡ None → AllByRecursion (λ (row : Bool × A). row.0 ≡ false) rows
no_row [] e = tt
no_row {A} (row ∷ rows) e = let p = step row.0 (first_of rows) e in (p.0, no_row rows p.1)
  where
    step : (b : Bool) (rest : Option A) → (if b then Some row.1 else rest) ≡ None → (b ≡ false) × (rest ≡ None)
    step true rest same = absurd (cc same)
    step false rest same = (refl, same)

-- what the tests say where they fail
both_fail : (a b : Bool) → (a || b) ≡ false → (a ≡ false) × (b ≡ false)
both_fail true b e = absurd (cc e)
both_fail false b e = (refl, e)

later_fails : (a b : Bool) → (a && b) ≡ false → a ≡ true → b ≡ false
later_fails true b e is = e
later_fails false b e is = absurd (cc is)

not_zero : (n : ℕ) → nat_eq n 0 ≡ false → 1 ≤ n
not_zero zero e = absurd (cc e)
not_zero (suc n) e = omega arith

counted : (b : Bool) (n most : ℕ) → (b && (nat_eq n 0 || nat_lt most n)) ≡ false → b ≡ true → (1 ≤ n) × (n ≤ most)
counted b n most e is =
    let p = both_fail (nat_eq n 0) (nat_lt most n) (later_fails b (nat_eq n 0 || nat_lt most n) e is) in
    (not_zero n p.0, ltb-false most n p.1)

end_inside : (b : Bool) (whole n s : ℕ) → s ≤ whole → (b && (nat_eq n 0 || nat_lt (whole - s) n)) ≡ false → (s ≤ (if b then whole - n else whole)) × ((if b then whole - n else whole) ≤ whole)
end_inside true whole n s inside e = let p = counted true n (whole - s) e refl in (omega (arith, p.1, inside), omega arith)
end_inside false whole n s inside e = (inside, omega arith)

begin_inside : (b : Bool) (s after e : ℕ) → s ≤ e → s ≤ after → (b && nat_lt e after) ≡ false → (s ≤ (if b then after else s)) × ((if b then after else s) ≤ e)
begin_inside true s after e inside more test = (more, ltb-false e after test)
begin_inside false s after e inside more test = (omega arith, inside)

-- the extension
extension_is : (bytes : List ℕ) (b : Bool) (s : ℕ) → AreBytes bytes → (b ≡ true → s + 4 + 4 * half_word_at bytes (s + 2) ≤ length bytes)
    → MatchBool b (IsExtension (slice_range bytes s (if b then s + 4 + 4 * half_word_at bytes (s + 2) else s))) (slice_range bytes s (if b then s + 4 + 4 * half_word_at bytes (s + 2) else s) ≡ [])
extension_is bytes false s all room = let none : s - s ≡ 0 = omega arith in ap (λ n. take n (drop s bytes)) none
extension_is bytes true s all room =
    let count = half_word_at bytes (s + 2) in
    let inside : s + 4 + 4 * half_word_at bytes (s + 2) ≤ length bytes = room refl in
    let two : s + 4 - (s + 2) ≡ 2 = omega arith in
    let number : slice_range bytes (s + 2) (s + 4) ≡ to_be_bytes w16 (half_word_at bytes (s + 2)) = ap (λ n. take n (drop (s + 2) bytes)) two ∙ sym (half_word_bytes bytes (s + 2) all (omega (arith, inside))) in
    let profile : length (slice_range bytes s (s + 2)) ≡ 2 = let e : s + 2 - s ≡ 2 = omega arith in part_length bytes s (s + 2) (omega arith) (omega (arith, inside)) ∙ e in
    let words : length (slice_range bytes (s + 4) (s + 4 + 4 * half_word_at bytes (s + 2))) ≡ 4 * half_word_at bytes (s + 2) =
    let e : s + 4 + 4 * half_word_at bytes (s + 2) - (s + 4) ≡ 4 * half_word_at bytes (s + 2) = omega arith in part_length bytes (s + 4) (s + 4 + 4 * half_word_at bytes (s + 2)) (omega arith) inside ∙ e in
    record {
      profile = slice_range bytes s (s + 2);
      words = slice_range bytes (s + 4) (s + 4 + 4 * half_word_at bytes (s + 2));
      count = half_word_at bytes (s + 2);
      joined =
          part_more bytes s (s + 4) (s + 4 + 4 * half_word_at bytes (s + 2)) (omega arith) (omega arith)
          ∙ ap (λ l. l ++ slice_range bytes (s + 4) (s + 4 + 4 * half_word_at bytes (s + 2))) (part_more bytes s (s + 2) (s + 4) (omega arith) (omega arith) ∙ ap (λ l. slice_range bytes s (s + 2) ++ l) number);
      sizes = (profile, words, half_word_small bytes (s + 2) all);
    }

-- the padding
padding_is : (bytes : List ℕ) (b : Bool) → (b ≡ true → (1 ≤ padding_count bytes) × (padding_count bytes ≤ length bytes))
    → MatchBool b (IsPadding (drop (if b then length bytes - padding_count bytes else length bytes) bytes)) (drop (if b then length bytes - padding_count bytes else length bytes) bytes ≡ [])
padding_is bytes false room = none bytes
  where
    none : (xs : List ℕ) → drop (length xs) xs ≡ []
    none [] = refl
    none (x ∷ xs) = none xs
padding_is bytes true room =
    let p = room refl in
    let n = padding_count bytes in
    let rest = drop (length bytes - padding_count bytes) bytes in
    let size : length (drop (length bytes - padding_count bytes) bytes) ≡ padding_count bytes = omega (arith, p, length-drop (length bytes - padding_count bytes) bytes) in
    let one : padding_count bytes - 1 + 1 ≡ padding_count bytes = omega (arith, p.0) in
    let place : length bytes - padding_count bytes + (padding_count bytes - 1) ≡ length bytes - 1 = omega (arith, p) in
    let last : get_or (drop (length bytes - padding_count bytes) bytes) (padding_count bytes - 1) 0 ≡ length (drop (length bytes - padding_count bytes) bytes) =
    get_or-drop (length bytes - padding_count bytes) bytes (padding_count bytes - 1) 0 ∙ ap (λ k. get_or bytes k 0) place ∙ sym size in
    record {
      filler = take (padding_count bytes - 1) (drop (length bytes - padding_count bytes) bytes);
      joined =
          sym (take_all (padding_count bytes) (drop (length bytes - padding_count bytes) bytes) (omega (arith, size))) ∙ ap (λ k. take k (drop (length bytes - padding_count bytes) bytes)) (sym one)
          ∙ take_more (drop (length bytes - padding_count bytes) bytes) (padding_count bytes - 1) 0 (omega (arith, size, p.0))
          ∙ ap (λ k. take (padding_count bytes - 1) (drop (length bytes - padding_count bytes) bytes) ++ k ∷ []) last;
    }

-- a packet of which no test holds
is_packet : (bytes : List ℕ) → AreBytes bytes → AllByRecursion (λ (row : Bool × RtpFault). row.0 ≡ false) (rtp_refusals bytes)
    → IsRtp (rtp_of bytes) (slice_range bytes (payload_begin bytes) (payload_end bytes)) bytes
is_packet bytes all tests =
    let s = sources_end bytes in
    let begin = payload_begin bytes in
    let end = payload_end bytes in
    let enough : 12 ≤ length bytes = ltb-false (length bytes) 12 tests.0 in
    let version : version_of bytes ≡ 2 = eqb-true (version_of bytes) 2 (was_true (nat_eq (version_of bytes) 2) tests.1.0) in
    let inside : sources_end bytes ≤ length bytes = ltb-false (length bytes) (sources_end bytes) tests.1.1.0 in
    let last = end_inside (has_padding bytes) (length bytes) (padding_count bytes) (sources_end bytes) inside tests.1.1.1.0 in
    let first = begin_inside (has_extension bytes) (sources_end bytes) (sources_end bytes + 4 + 4 * half_word_at bytes (sources_end bytes + 2)) (payload_end bytes) last.0 (omega arith) tests.1.1.1.1.1.0 in
    let words : has_extension bytes ≡ true → sources_end bytes + 4 + 4 * half_word_at bytes (sources_end bytes + 2) ≤ length bytes =
    λ is. let most : sources_end bytes + 4 + 4 * half_word_at bytes (sources_end bytes + 2) ≤ payload_end bytes = ltb-false (payload_end bytes) (sources_end bytes + 4 + 4 * half_word_at bytes (sources_end bytes + 2)) (later_fails (has_extension bytes) _ tests.1.1.1.1.1.0 is) in
    omega (arith, most, last.1) in
    let padding : has_padding bytes ≡ true → (1 ≤ padding_count bytes) × (padding_count bytes ≤ length bytes) =
    λ is. let p = counted (has_padding bytes) (padding_count bytes) (length bytes - sources_end bytes) tests.1.1.1.0 is in (p.0, omega (arith, p.1)) in
    let front : 12 ≤ sources_end bytes = omega arith in
    let sourced : length (slice_range bytes 12 (sources_end bytes)) ≡ 4 * field 4 24 (word_at bytes 0) =
    let e : sources_end bytes - 12 ≡ 4 * field 4 24 (word_at bytes 0) = omega arith in part_length bytes 12 (sources_end bytes) front inside ∙ e in
    let fields : read_fields bytes ≡ rtp_fields (has_padding bytes) (has_extension bytes) (field 4 24 (word_at bytes 0)) (rtp_of bytes) =
    ap (λ v. (2, v) ∷ (1, bit_of (has_padding bytes)) ∷ (1, bit_of (has_extension bytes)) ∷ (4, field 4 24 (word_at bytes 0)) ∷ (1, bit_of (has_bit 23 (word_at bytes 0)))
    ∷ (7, field 7 16 (word_at bytes 0)) ∷ (16, field 16 0 (word_at bytes 0)) ∷ (32, word_at bytes 4) ∷ (32, word_at bytes 8) ∷ []) version in
    record {
      fixed = take 12 bytes;
      sources = slice_range bytes 12 (sources_end bytes);
      extension = slice_range bytes (sources_end bytes) (payload_begin bytes);
      padding = drop (payload_end bytes) bytes;
      joined =
          sym (take-append-drop (payload_end bytes) bytes) ∙ ap (λ l. l ++ drop (payload_end bytes) bytes)
          (front_more bytes (payload_begin bytes) (payload_end bytes) first.1 ∙ ap (λ l. l ++ slice_range bytes (payload_begin bytes) (payload_end bytes))
          (front_more bytes (sources_end bytes) (payload_begin bytes) first.0 ∙ ap (λ l. l ++ slice_range bytes (sources_end bytes) (payload_begin bytes)) (front_more bytes 12 (sources_end bytes) front)));
      count = field 4 24 (word_at bytes 0);
      extended = has_extension bytes;
      padded = has_padding bytes;
      room = subst FieldsFit fields (read_room bytes all);
      spelled = fixed_spelled bytes all enough ∙ ap bits_of_fields fields;
      sourced = sourced;
      extension_is = extension_is bytes (has_extension bytes) (sources_end bytes) all words;
      padding_is = padding_is bytes (has_padding bytes) padding;
    }
  where
    was_true : (b : Bool) → not b ≡ false → b ≡ true
    was_true true e = refl
    was_true false e = absurd (cc e)

read_is_packet : (bytes : List ℕ) (rtp : Rtp) (begin end : ℕ) → AreBytes bytes → rtp_read bytes ≡ Ok (rtp, begin, end) → IsRtp rtp (slice_range bytes begin end) bytes
read_is_packet bytes rtp begin end all answer =
    let t = told bytes (rtp, begin, end) answer in
    let made = is_packet bytes all (no_row (rtp_refusals bytes) t.0) in
    subst (λ (x : Rtp × ℕ × ℕ). IsRtp x.0 (slice_range bytes x.1 x.2) bytes) t.1 made

-- What is so spelled is read

same_bit : (a b : Bool) → bit_of a ≡ bit_of b → a ≡ b
same_bit true true e = refl
same_bit true false e = absurd (omega (arith, e))
same_bit false true e = absurd (omega (arith, e))
same_bit false false e = refl

some_are : (n : ℕ) → 1 ≤ n → nat_eq n 0 ≡ false
some_are zero some = absurd (omega (arith, some))
some_are (suc n) some = eqb-suc-zero n

padding_fits : (b : Bool) (n most : ℕ) → (b ≡ true → (1 ≤ n) × (n ≤ most)) → (b && (nat_eq n 0 || nat_lt most n)) ≡ false
padding_fits false n most fits = refl
padding_fits true n most fits = let p = fits refl in ap (λ x. x || nat_lt most n) (some_are n p.0) ∙ le-ltb most n p.1

extension_fits : (b : Bool) (e k : ℕ) → (b ≡ true → k ≤ e) → (b && nat_lt e k) ≡ false
extension_fits false e k fits = refl
extension_fits true e k fits = le-ltb e k (fits refl)

-- where an extension ends, after so many bytes
extension_end : (b : Bool) (front extension rest : List ℕ) (s : ℕ) → length front ≡ s → MatchBool b (IsExtension extension) (extension ≡ [])
    → ((if b then s + 4 + 4 * half_word_at (front ++ (extension ++ rest)) (s + 2) else s) ≡ s + length extension) × (b ≡ true → 4 ≤ length extension)
extension_end false front extension rest s size none = let e : length extension ≡ 0 = ap length none in (omega (arith, e), λ is. absurd (cc is))
extension_end true front extension rest s size is =
    let number = to_be_bytes w16 is.count in
    let cut : front ++ (extension ++ rest) ≡ (front ++ is.profile) ++ (to_be_bytes w16 is.count ++ (is.words ++ rest)) = ap (λ l. front ++ (l ++ rest)) is.joined ∙ regroup front is.profile (to_be_bytes w16 is.count) is.words rest in
    let before : length (front ++ is.profile) ≡ s + 2 = omega (arith, length-append front is.profile, size, is.sizes.0) in
    let count : half_word_at (front ++ (extension ++ rest)) (s + 2) ≡ is.count =
    ap (λ l. from_be_bytes w16 (take 2 (drop (s + 2) l))) cut
    ∙ ap (λ l. from_be_bytes w16 (take 2 l)) (drop_at (front ++ is.profile) (to_be_bytes w16 is.count ++ (is.words ++ rest)) (s + 2) before)
    ∙ ap (from_be_bytes w16) (take_at (to_be_bytes w16 is.count) (is.words ++ rest) 2 refl) ∙ from_be_bytes-to_be_bytes_2 is.count is.sizes.2 in
    let long : length extension ≡ 4 + 4 * is.count =
    let a = ap length is.joined in
    omega (arith, a, length-append (is.profile ++ to_be_bytes w16 is.count) is.words, length-append is.profile (to_be_bytes w16 is.count), is.sizes.0, is.sizes.1) in
    (omega (arith, count, long), λ so. omega (arith, long))
  where
    regroup : (a p n w r : List ℕ) → a ++ (((p ++ n) ++ w) ++ r) ≡ (a ++ p) ++ (n ++ (w ++ r))
    regroup a p n w r = simp append_assoc

-- where padding begins
padding_begin : (b : Bool) (front padding : List ℕ) → MatchBool b (IsPadding padding) (padding ≡ [])
    → ((if b then length (front ++ padding) - padding_count (front ++ padding) else length (front ++ padding)) ≡ length front)
    × (b ≡ true → (1 ≤ padding_count (front ++ padding)) × (padding_count (front ++ padding) ≤ length padding))
padding_begin false front padding none = let e : length padding ≡ 0 = ap length none in (omega (arith, length-append front padding, e), λ is. absurd (cc is))
padding_begin true front padding is =
    let some : length padding ≡ length is.filler + 1 = let a = ap length is.joined in omega (arith, a, length-append is.filler (length padding ∷ [])) in
    let whole = length-append front padding in
    let place : length (front ++ padding) - 1 - length front ≡ length is.filler = omega (arith, whole, some) in
    let none : length is.filler - length is.filler ≡ 0 = omega arith in
    let count : padding_count (front ++ padding) ≡ length padding =
    get_or-append_right front padding (length front) (length (front ++ padding) - 1) 0 refl (omega (arith, whole, some))
    ∙ ap (λ k. get_or padding k 0) place ∙ ap (λ l. get_or l (length is.filler) 0) is.joined
    ∙ get_or-append_right is.filler (length padding ∷ []) (length is.filler) (length is.filler) 0 refl (omega arith) ∙ ap (λ k. get_or (length padding ∷ []) k 0) none in
    (omega (arith, count, whole), λ so. (omega (arith, count, some), omega (arith, count)))

five : (a b c d e : List ℕ) → a ++ b ++ c ++ d ++ e ≡ a ++ (b ++ (c ++ (d ++ e)))
five a b c d e = simp append_assoc

two_and_three : (a b c d e : List ℕ) → a ++ b ++ c ++ d ++ e ≡ (a ++ b) ++ (c ++ (d ++ e))
two_and_three a b c d e = simp append_assoc

three_and_two : (a b c d e : List ℕ) → a ++ b ++ c ++ d ++ e ≡ (a ++ b ++ c) ++ (d ++ e)
three_and_two a b c d e = simp append_assoc

abbrev rtp_with : Bool → (payload_type sequence timestamp ssrc : ℕ) → Rtp
rtp_with marker payload_type sequence timestamp ssrc = record { marker = marker; payload_type = payload_type; sequence = sequence; timestamp = timestamp; ssrc = ssrc }

spelled_is_read : (bytes payload : List ℕ) (rtp : Rtp) → AreBytes bytes → IsRtp rtp payload bytes
    → (begin : ℕ) × (end : ℕ) × (rtp_read bytes ≡ Ok (rtp, begin, end)) × (payload ≡ slice_range bytes begin end)
spelled_is_read bytes payload rtp all is = (payload_begin bytes, payload_end bytes, answer, stands)
  where
    fields : List (ℕ × ℕ)
    fields = rtp_fields is.padded is.extended is.count rtp

    fixed_size : length is.fixed ≡ 12
    fixed_size =
        let bits : length (bits_of_fields (rtp_fields is.padded is.extended is.count rtp)) ≡ 96 = simp (length-append, length-bits_of) in
        let e = length-bits_of_bytes is.fixed in
        let same = ap length is.spelled in
        omega (arith, bits, e, same)

    size : length bytes ≡ 12 + length is.sources + length is.extension + length payload + length is.padding
    size =
        let e = ap length is.joined in
        omega (arith, e, length-append (is.fixed ++ is.sources ++ is.extension ++ payload) is.padding, length-append (is.fixed ++ is.sources ++ is.extension) payload, length-append (is.fixed ++ is.sources) is.extension, length-append is.fixed is.sources, fixed_size)

    enough : 12 ≤ length bytes
    enough = omega (arith, size)

    front : take 12 bytes ≡ is.fixed
    front = ap (take 12) (is.joined ∙ five is.fixed is.sources is.extension payload is.padding) ∙ take_at is.fixed (is.sources ++ (is.extension ++ (payload ++ is.padding))) 12 fixed_size

    values : map (λ (f : ℕ × ℕ). f.1) (read_fields bytes) ≡ map (λ (f : ℕ × ℕ). f.1) (rtp_fields is.padded is.extended is.count rtp)
    values =
        (fields_agree (read_fields bytes) (rtp_fields is.padded is.extended is.count rtp) [] [] refl (read_room bytes all) is.room
        (ap (λ l. l ++ []) (sym (fixed_spelled bytes all enough) ∙ ap bits_of_bytes front ∙ is.spelled))).0

    value : (k : ℕ) → get_or (map (λ (f : ℕ × ℕ). f.1) (read_fields bytes)) k 0 ≡ get_or (map (λ (f : ℕ × ℕ). f.1) (rtp_fields is.padded is.extended is.count rtp)) k 0
    value k = ap (λ l. get_or l k 0) values

    padded : has_padding bytes ≡ is.padded
    padded = same_bit (has_padding bytes) is.padded (value 1)

    extended : has_extension bytes ≡ is.extended
    extended = same_bit (has_extension bytes) is.extended (value 2)

    header : rtp_of bytes ≡ rtp
    header =
        ap (λ b. rtp_with b (field 7 16 (word_at bytes 0)) (field 16 0 (word_at bytes 0)) (word_at bytes 4) (word_at bytes 8)) (same_bit (has_bit 23 (word_at bytes 0)) rtp.marker (value 4))
        ∙ ap (λ n. rtp_with rtp.marker n (field 16 0 (word_at bytes 0)) (word_at bytes 4) (word_at bytes 8)) (value 5)
        ∙ ap (λ n. rtp_with rtp.marker rtp.payload_type n (word_at bytes 4) (word_at bytes 8)) (value 6)
        ∙ ap (λ n. rtp_with rtp.marker rtp.payload_type rtp.sequence n (word_at bytes 8)) (value 7)
        ∙ ap (λ n. rtp_with rtp.marker rtp.payload_type rtp.sequence rtp.timestamp n) (value 8)

    sources : sources_end bytes ≡ 12 + length is.sources
    sources = let e : field 4 24 (word_at bytes 0) ≡ is.count = value 3 in omega (arith, e, is.sourced)

    extension : ((if is.extended then 12 + length is.sources + 4 + 4 * half_word_at bytes (12 + length is.sources + 2) else 12 + length is.sources) ≡ 12 + length is.sources + length is.extension)
        × (is.extended ≡ true → 4 ≤ length is.extension)
    extension =
        let before : length (is.fixed ++ is.sources) ≡ 12 + length is.sources = omega (arith, length-append is.fixed is.sources, fixed_size) in
        subst (λ l. ((if is.extended then 12 + length is.sources + 4 + 4 * half_word_at l (12 + length is.sources + 2) else 12 + length is.sources) ≡ 12 + length is.sources + length is.extension) × (is.extended ≡ true → 4 ≤ length is.extension))
        (sym (is.joined ∙ two_and_three is.fixed is.sources is.extension payload is.padding))
        (extension_end is.extended (is.fixed ++ is.sources) is.extension (payload ++ is.padding) (12 + length is.sources) before is.extension_is)

    begin : payload_begin bytes ≡ 12 + length is.sources + length is.extension
    begin =
        ap (λ s. if has_extension bytes then s + 4 + 4 * half_word_at bytes (s + 2) else s) sources
        ∙ ap (λ b. if b then 12 + length is.sources + 4 + 4 * half_word_at bytes (12 + length is.sources + 2) else 12 + length is.sources) extended ∙ extension.0

    padding : ((if is.padded then length bytes - padding_count bytes else length bytes) ≡ length (is.fixed ++ is.sources ++ is.extension ++ payload))
        × (is.padded ≡ true → (1 ≤ padding_count bytes) × (padding_count bytes ≤ length is.padding))
    padding =
        subst (λ l. ((if is.padded then length l - padding_count l else length l) ≡ length (is.fixed ++ is.sources ++ is.extension ++ payload)) × (is.padded ≡ true → (1 ≤ padding_count l) × (padding_count l ≤ length is.padding)))
        (sym is.joined) (padding_begin is.padded (is.fixed ++ is.sources ++ is.extension ++ payload) is.padding is.padding_is)

    end : payload_end bytes ≡ 12 + length is.sources + length is.extension + length payload
    end =
        let e : payload_end bytes ≡ length (is.fixed ++ is.sources ++ is.extension ++ payload) = ap (λ b. if b then length bytes - padding_count bytes else length bytes) padded ∙ padding.0 in
        omega (arith, e, length-append (is.fixed ++ is.sources ++ is.extension) payload, length-append (is.fixed ++ is.sources) is.extension, length-append is.fixed is.sources, fixed_size)

    words : has_extension bytes ≡ true → sources_end bytes + 4 + 4 * half_word_at bytes (sources_end bytes + 2) ≤ payload_end bytes
    words so =
        let e : sources_end bytes + 4 + 4 * half_word_at bytes (sources_end bytes + 2) ≡ payload_begin bytes = ap (λ b. if b then sources_end bytes + 4 + 4 * half_word_at bytes (sources_end bytes + 2) else sources_end bytes) (sym so) in
        omega (arith, e, begin, end)

    answer : rtp_read bytes ≡ Ok (rtp, payload_begin bytes, payload_end bytes)
    answer =
        reads bytes (
          le-ltb (length bytes) 12 enough,
          (
            ap (λ v. not (nat_eq v 2)) (value 0),
            (
              le-ltb (length bytes) (sources_end bytes) (omega (arith, sources, size)),
              (
                padding_fits (has_padding bytes) (padding_count bytes) (length bytes - sources_end bytes) (λ so. let p = padding.1 (sym padded ∙ so) in (p.0, omega (arith, p.1, sources, size))),
                (
                  extension_fits (has_extension bytes) (payload_end bytes) (sources_end bytes + 4) (λ so. let e = words so in omega (arith, e)),
                  (
                    extension_fits (has_extension bytes) (payload_end bytes) (sources_end bytes + 4 + 4 * half_word_at bytes (sources_end bytes + 2)) words,
                    tt,
                  ),
                ),
              ),
            ),
          ),
        )
        ∙ ap (λ (r : Rtp). Ok (r, payload_begin bytes, payload_end bytes)) header

    stands : payload ≡ slice_range bytes (payload_begin bytes) (payload_end bytes)
    stands =
        let before : length (is.fixed ++ is.sources ++ is.extension) ≡ payload_begin bytes = omega (arith, begin, length-append (is.fixed ++ is.sources) is.extension, length-append is.fixed is.sources, fixed_size) in
        let count : payload_end bytes - payload_begin bytes ≡ length payload = omega (arith, begin, end) in
        sym (ap (λ n. take n (drop (payload_begin bytes) bytes)) count
        ∙ ap (λ l. take (length payload) (drop (payload_begin bytes) l)) (is.joined ∙ three_and_two is.fixed is.sources is.extension payload is.padding)
        ∙ ap (take (length payload)) (drop_at (is.fixed ++ is.sources ++ is.extension) (payload ++ is.padding) (payload_begin bytes) before)
        ∙ take_at payload is.padding (length payload) refl)

pub packet_is_read : PacketIsRead
packet_is_read = record { read = read_is_packet; spelled = spelled_is_read }
