-- The sizes of what is written, and that it is bytes.
use Rattle.std.proofs.Common.{◌≡◌, ℕ, zero, suc, ◌+◌, ◌*◌, ◌/◌, ◌%◌, ◌^◌, ◌<◌, List, [], ◌∷◌, ◌++◌, map, length, replicate, refl, ap, ◌∙◌, arith, length-append}
use Rattle.std.specs.Prelude.{Bool, true, false, if◌then◌else◌}
use Rattle.std.specs.Int.{to_be_bytes, w16}
use Rattle.std.specs.List.{flat_map, fold, sum_by, range_with_len, AllByRecursion}
use Rattle.std.proofs.lemmas.List.{length-replicate}
use Rattle.std.proofs.lemmas.List.Concat.{length-flat_map}
use Rattle.std.proofs.lemmas.List.Sums.{sum_by-cons}
use Rattle.xs_params.specs.declared.header.Header.{Header}
use Rattle.xs_lists.specs.Bits.{bits_of_fields, bytes_for}
use Rattle.xs_lists.specs.Packing.{packed, AreBytes}
use Rattle.xs_lists.specs.Spelling.{upto}
use Rattle.xs_lists.proofs.Packing.{length-packed, packed_bytes}
use Rattle.xs_lists.proofs.Bitwise.{fields-are, join-are}
use Rattle.xs_lists.proofs.Walk.{all-append}
use Rattle.xs_spelling.specs.Counts.{Line, flag_bits}
use Rattle.xs_spelling.specs.Data.{sign_bits}
use Rattle.xs_spelling.specs.Written.{written_flag, line_count_bits, line_data_bits}
use Rattle.xs_spelling.proofs.Bitwise.{flags-are, counts-are, data-are, signs-are}
use Rattle.xs_params.specs.Geometry.{bands_of, packet_bands, packets_of, precincts_of, slice_count}
use Rattle.xs_grammar.specs.Packet.{packet_fields}
use Rattle.xs_grammar.specs.Precinct.{Content, precinct_fields}
use Rattle.xs_grammar.specs.Slice.{slice_head}
use Rattle.xs_params.specs.Markers.{eoc}
use Rattle.xs_grammar.specs.Header.{Segment, segment_bytes, picture_fields, component_fields, weight_fields}
use Rattle.xs_grammar.specs.Coded.{field_bytes, flags_part, counts_part, data_part, signs_part, lines_fields, lines_bytes, packet_line, packet_bytes, packets_bytes, precinct_body, precinct_bytes, slice_bytes, written_segments, header_bytes}
use Rattle.xs_grammar.specs.Sizes.{head_size, lines_size, packet_size, precinct_size, SizeOfSlice}
use Rattle.xs_grammar.specs.Laws.{WrittenBytes}
use Rattle.xs_grammar.proofs.Coded.{widths}
use Rattle.xs_grammar.proofs.CodedStream.{length-field_bytes}

-- Sizes

fold-same : {A : Type 0} (f g : A → ℕ) → ((x : A) → f x ≡ g x) → (n : ℕ) (xs : List A) → fold (λ a x. a + f x) n xs ≡ fold (λ a x. a + g x) n xs
fold-same f g h n [] = refl
fold-same f g h n (x ∷ xs) = ap (λ k. fold (λ a x. a + f x) (n + k) xs) (h x) ∙ fold-same f g h (n + g x) xs

sum_by-same : {A : Type 0} (f g : A → ℕ) → ((x : A) → f x ≡ g x) → (xs : List A) → sum_by f xs ≡ sum_by g xs
sum_by-same f g h xs = fold-same f g h 0 xs

part_size : (f : ℕ → List ℕ) (bands : List ℕ) → length (packed (flat_map f bands)) ≡ bytes_for (sum_by (λ band. length (f band)) bands)
part_size f bands = length-packed (flat_map f bands) ∙ ap bytes_for (length-flat_map f bands)

heads_size : (h : Header) (raw : Bool) (planes counts signs : ℕ) → length (field_bytes (packet_fields h.long_heads raw planes counts signs)) ≡ head_size h
heads_size h raw planes counts signs = length-field_bytes (packet_fields h.long_heads raw planes counts signs) ∙ cases h.long_heads
  where
    cases : (long : Bool) → bytes_for (widths (packet_fields long raw planes counts signs)) ≡ (if long then 7 else 5)
    cases true = refl
    cases false = refl

signs_size : (apart : Bool) (bands : List ℕ) (line : ℕ → Line) → length (signs_part apart bands line) ≡ (if apart then bytes_for (sum_by (λ band. length (sign_bits (line band))) bands) else 0)
signs_size true bands line = part_size (λ band. sign_bits (line band)) bands
signs_size false bands line = refl

pub length-lines_bytes : (h : Header) (bands : List ℕ) (line : ℕ → Line) → length (lines_bytes h bands line) ≡ lines_size h bands line
length-lines_bytes h bands line =
    let head = field_bytes (lines_fields h bands line) in
    let flags = flags_part bands line in
    let counts = counts_part bands line in
    let planes = data_part h.signs_apart bands line in
    let signs = signs_part h.signs_apart bands line in
    omega (
      arith,
      length-append head (flags ++ (counts ++ (planes ++ signs))),
      length-append flags (counts ++ (planes ++ signs)),
      length-append counts (planes ++ signs),
      length-append planes signs,
      heads_size h false (length planes) (length counts) (length signs),
      part_size (λ band. flag_bits (line band) (written_flag (line band))) bands,
      part_size (λ band. line_count_bits false (line band) (written_flag (line band))) bands,
      part_size (λ band. line_data_bits h.signs_apart (line band)) bands,
      signs_size h.signs_apart bands line,
    )

modes_width : (mode : ℕ → ℕ) (first n : ℕ) → widths (map (λ band. (2, mode band)) (range_with_len first n)) ≡ 2 * n
modes_width mode first zero = refl
modes_width mode first (suc n) = omega (arith, modes_width mode (first + 1) n)

pub length-precinct_bytes : (h : Header) (content : Content) (mode : ℕ → ℕ → ℕ) (filler : ℕ → ℕ) (precinct : ℕ)
    → length (precinct_bytes h content mode filler precinct) ≡ precinct_size h content mode precinct + filler precinct
length-precinct_bytes h content mode filler precinct =
    let body = precinct_body h content mode filler precinct in
    let fields = precinct_fields h content precinct (length body) (mode precinct) in
    let width : widths fields ≡ 40 + 2 * bands_of h = omega (arith, modes_width (mode precinct) 0 (bands_of h)) in
    let head : length (field_bytes fields) ≡ bytes_for (40 + 2 * bands_of h) = length-field_bytes fields ∙ ap bytes_for width in
    let packets : length (packets_bytes h content mode precinct) ≡ sum_by (packet_size h content (mode precinct)) (packets_of h precinct) =
    length-flat_map (packet_bytes h content (mode precinct)) (packets_of h precinct)
    ∙ sum_by-same (λ place. length (packet_bytes h content (mode precinct) place)) (packet_size h content (mode precinct))
    (λ place. length-lines_bytes h (packet_bands h place) (packet_line h content (mode precinct) place)) (packets_of h precinct) in
    whole (bytes_for (40 + 2 * bands_of h)) (sum_by (packet_size h content (mode precinct)) (packets_of h precinct)) (length (packets_bytes h content mode precinct)) (length (field_bytes fields)) (length body) (filler precinct) (length (field_bytes fields ++ body)) (length (replicate (filler precinct) 0))
    (length-append (field_bytes fields) body) head packets (length-append (packets_bytes h content mode precinct) (replicate (filler precinct) 0)) (length-replicate (filler precinct) 0)
  where
    whole : (first sum packets head body more all rest : ℕ) → all ≡ head + body → head ≡ first → packets ≡ sum → body ≡ packets + rest → rest ≡ more → all ≡ first + sum + more
    whole first sum packets head body more all rest p q r t u = omega (arith, p, q, r, t, u)

sum_by-add : {A : Type 0} (f g : A → ℕ) (xs : List A) → sum_by (λ x. f x + g x) xs ≡ sum_by f xs + sum_by g xs
sum_by-add f g [] = refl
sum_by-add f g (x ∷ xs) = omega (arith, sum_by-cons (λ x. f x + g x) x xs, sum_by-cons f x xs, sum_by-cons g x xs, sum_by-add f g xs)

pub size_of_slice : SizeOfSlice
size_of_slice h content mode filler slice =
    let body = flat_map (precinct_bytes h content mode filler) (precincts_of h slice) in
    let sizes = length-flat_map (precinct_bytes h content mode filler) (precincts_of h slice)
    ∙ sum_by-same (λ precinct. length (precinct_bytes h content mode filler precinct)) (λ precinct. precinct_size h content mode precinct + filler precinct) (length-precinct_bytes h content mode filler) (precincts_of h slice)
    ∙ sum_by-add (precinct_size h content mode) filler (precincts_of h slice) in
    whole (length (slice_bytes h content mode filler slice)) (length body) (sum_by (precinct_size h content mode) (precincts_of h slice)) (sum_by filler (precincts_of h slice)) (length-append (slice_head slice) body) sizes
  where
    whole : (all body sizes more : ℕ) → all ≡ 6 + body → body ≡ sizes + more → all ≡ 6 + sizes + more
    whole all body sizes more p q = omega (arith, p, q)

-- Bytes

join : (a b : List ℕ) → AreBytes a → AreBytes b → AreBytes (a ++ b)
join a b p q = all-append (λ byte. byte < 2 ^ 8) a b p q

joins : {A : Type 0} (f : A → List ℕ) → ((x : A) → AreBytes (f x)) → (xs : List A) → AreBytes (flat_map f xs)
joins f h [] = tt
joins f h (x ∷ xs) = join (f x) (flat_map f xs) (h x) (joins f h xs)

fields_are : (fields : List (ℕ × ℕ)) → AreBytes (field_bytes fields)
fields_are fields = packed_bytes (bits_of_fields fields) (fields-are fields)

signs_are : (apart : Bool) (bands : List ℕ) (line : ℕ → Line) → AreBytes (signs_part apart bands line)
signs_are true bands line = packed_bytes (flat_map (λ band. sign_bits (line band)) bands) (join-are (λ band. sign_bits (line band)) (λ band. signs-are (line band)) bands)
signs_are false bands line = tt

pub lines_are : (h : Header) (bands : List ℕ) (line : ℕ → Line) → AreBytes (lines_bytes h bands line)
lines_are h bands line =
    let head = field_bytes (lines_fields h bands line) in
    let flags = flags_part bands line in
    let counts = counts_part bands line in
    let planes = data_part h.signs_apart bands line in
    let signs = signs_part h.signs_apart bands line in
    join head (flags ++ (counts ++ (planes ++ signs))) (fields_are (lines_fields h bands line))
    (join flags (counts ++ (planes ++ signs))
    (packed_bytes (flat_map (λ band. flag_bits (line band) (written_flag (line band))) bands) (join-are (λ band. flag_bits (line band) (written_flag (line band))) (λ band. flags-are (line band)) bands))
    (join counts (planes ++ signs)
    (packed_bytes (flat_map (λ band. line_count_bits false (line band) (written_flag (line band))) bands)
    (join-are (λ band. line_count_bits false (line band) (written_flag (line band))) (λ band. counts-are (line band) (written_flag (line band))) bands))
    (join planes signs
    (packed_bytes (flat_map (λ band. line_data_bits h.signs_apart (line band)) bands) (join-are (λ band. line_data_bits h.signs_apart (line band)) (λ band. data-are h.signs_apart (line band)) bands))
    (signs_are h.signs_apart bands line))))

zeros_are : (n : ℕ) → AreBytes (replicate n 0)
zeros_are zero = tt
zeros_are (suc n) = (omega arith, zeros_are n)

pub precinct_are : (h : Header) (content : Content) (mode : ℕ → ℕ → ℕ) (filler : ℕ → ℕ) (precinct : ℕ) → AreBytes (precinct_bytes h content mode filler precinct)
precinct_are h content mode filler precinct =
    join (field_bytes (precinct_fields h content precinct (length (precinct_body h content mode filler precinct)) (mode precinct))) (precinct_body h content mode filler precinct)
    (fields_are (precinct_fields h content precinct (length (precinct_body h content mode filler precinct)) (mode precinct)))
    (join (packets_bytes h content mode precinct) (replicate (filler precinct) 0) (joins (packet_bytes h content (mode precinct)) (λ place. lines_are h (packet_bands h place) (packet_line h content (mode precinct) place)) (packets_of h precinct)) (zeros_are (filler precinct)))

word_are : (n : ℕ) → AreBytes (to_be_bytes w16 n)
word_are n =
    let high : n / 256 % 256 < 256 = omega arith in
    let low : n % 256 < 256 = omega arith in
    (high, (low, tt))

pub slice_are : (h : Header) (content : Content) (mode : ℕ → ℕ → ℕ) (filler : ℕ → ℕ) (slice : ℕ) → AreBytes (slice_bytes h content mode filler slice)
slice_are h content mode filler slice =
    join (slice_head slice) (flat_map (precinct_bytes h content mode filler) (precincts_of h slice))
    (join (0xff ∷ 0x20 ∷ 0 ∷ 4 ∷ []) (to_be_bytes w16 slice) (omega arith, (omega arith, (omega arith, (omega arith, tt)))) (word_are slice))
    (joins (precinct_bytes h content mode filler) (precinct_are h content mode filler) (precincts_of h slice))

segment_are : (s : Segment) → AreBytes s.body → AreBytes (segment_bytes s)
segment_are s p = join (to_be_bytes w16 s.code) (to_be_bytes w16 (length s.body + 2) ++ s.body) (word_are s.code) (join (to_be_bytes w16 (length s.body + 2)) s.body (word_are (length s.body + 2)) p)

segments_are : (xs : List Segment) → AllByRecursion (λ (s : Segment). AreBytes s.body) xs → AreBytes (flat_map segment_bytes xs)
segments_are [] h = tt
segments_are (s ∷ xs) h = join (segment_bytes s) (flat_map segment_bytes xs) (segment_are s h.0) (segments_are xs h.1)

pub header_are : (h : Header) → AreBytes (header_bytes h)
header_are h =
    join (0xff ∷ 0x10 ∷ []) (flat_map segment_bytes (written_segments h)) (omega arith, (omega arith, tt))
    (segments_are (written_segments h) (tt, (fields_are (picture_fields h 0 0 0), (fields_are (component_fields h), (fields_are (weight_fields h), tt)))))

pub written_bytes : WrittenBytes
written_bytes h content mode filler =
    join (header_bytes h) (flat_map (slice_bytes h content mode filler) (upto (slice_count h)) ++ eoc) (header_are h)
    (join (flat_map (slice_bytes h content mode filler) (upto (slice_count h))) eoc (joins (slice_bytes h content mode filler) (slice_are h content mode filler) (upto (slice_count h))) (omega arith, (omega arith, tt)))
