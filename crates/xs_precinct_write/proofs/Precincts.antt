-- The precincts of a slice: where they are, and their bytes.
use Rattle.std.proofs.Common.{◌≡◌, ℕ, zero, suc, ◌+◌, ◌-◌, ◌*◌, ◌%◌, ◌^◌, ◌<◌, ◌≤◌, min, List, [], ◌∷◌, ◌++◌, map, length, get_or, refl, sym, ap, ◌∙◌, arith}
use Rattle.std.specs.Prelude.{true, nat_lt, replicate}
use Rattle.std.specs.List.{flat_map, list_all, range_with_len, Contains}
use Rattle.std.proofs.Math.Nat.{mul-le-mul_right, mul_assoc}
use Rattle.std.proofs.lemmas.Bool.{and_parts, ltb-true}
use Rattle.std.proofs.lemmas.List.Concat.{flat_map-append}
use Rattle.std.proofs.lemmas.List.Elements.{All-from_recursion}
use Rattle.xs_lists.specs.Bits.{bits_of, bits_of_bytes, bits_of_fields}
use Rattle.xs_lists.specs.Packing.{AreBytes, missing_bits}
use Rattle.xs_lists.specs.Spelling.{upto}
use Rattle.xs_lists.proofs.Bitwise.{fields-are}
use Rattle.xs_lists.proofs.Packing.{bytes_by_bits, packed_bytes}
use Rattle.xs_lists.proofs.Walk.{all-append}
use Rattle.xs_params.specs.declared.header.Header.{Header}
use Rattle.xs_params.specs.Geometry.{bands_of, lines_of, packet_bands, packets_of, precinct_count, precinct_lines, precincts_of}
use Rattle.xs_geometry.specs.Places.{no_place, packet_at}
use Rattle.xs_geometry.specs.SliceLines.{BandLines, HasLine, AreLinesOf}
use Rattle.xs_geometry.proofs.PlaceFacts.{range_has}
use Rattle.xs_grammar.specs.Coded.{field_bytes, packet_bytes, packet_fits, packet_line, packets_bytes, precinct_body, precinct_bytes, precinct_fits}
use Rattle.xs_grammar.specs.Precinct.{Content}
use Rattle.xs_grammar.proofs.Coded.{list_all-all}
use Rattle.xs_grammar.proofs.Sizes.{lines_are}
use Rattle.xs_precinct_write.specs.Outgoing.{Outgoing, HaveModes, no_outgoing}
use Rattle.xs_precinct_write.proofs.Joined.{part_bits}

-- Where

pub precinct_there : (h : Header) (slice precinct : ℕ) → Contains (precincts_of h slice) precinct → precinct < precinct_count h
precinct_there h slice precinct there =
    let known = range_has (slice * h.hsl) (min ((slice + 1) * h.hsl) (precinct_count h) - slice * h.hsl) precinct there in
    omega (arith, known.0, known.1)

-- the lines of a precinct are lines of its slice
pub line_there : (h : Header) (slice : ℕ) (bands : List BandLines) (precinct band line : ℕ) → AreLinesOf h slice bands → Contains (precincts_of h slice) precinct → band < bands_of h
    → (lines_of h precinct band).0 ≤ line → line < (lines_of h precinct band).1 → HasLine bands band line
line_there h slice bands precinct band line are there inside low high =
    let lines = precinct_lines h band in
    let known = range_has (slice * h.hsl) (min ((slice + 1) * h.hsl) (precinct_count h) - slice * h.hsl) precinct there in
    let from : slice * h.hsl * lines ≤ precinct * lines = mul-le-mul_right lines known.0 in
    let below : precinct + 1 ≤ (slice + 1) * h.hsl = omega (arith, known.0, known.1) in
    let to : (precinct + 1) * lines ≤ (slice + 1) * h.hsl * lines = mul-le-mul_right lines below in
    let start : slice * h.hsl * lines ≡ slice * (h.hsl * lines) = mul_assoc slice h.hsl lines in
    let stop : (slice + 1) * h.hsl * lines ≡ (slice + 1) * (h.hsl * lines) = mul_assoc (slice + 1) h.hsl lines in
    record {
      band_there = omega (arith, inside, are.count);
      from = omega (arith, are.first band inside, from, start, low);
      line_there = omega (arith, are.lines band inside, are.first band inside, to, stop, high);
    }

-- Bytes

pub joins_are : {A : Type 0} (f : A → List ℕ) → ((x : A) → AreBytes (f x)) → (xs : List A) → AreBytes (flat_map f xs)
joins_are f h [] = tt
joins_are f h (x ∷ xs) = all-append (λ byte. byte < 2 ^ 8) (f x) (flat_map f xs) (h x) (joins_are f h xs)

pub packets_are : (h : Header) (content : Content) (mode : ℕ → ℕ → ℕ) (precinct : ℕ) → AreBytes (packets_bytes h content mode precinct)
packets_are h content mode precinct = joins_are (packet_bytes h content (mode precinct)) (λ place. lines_are h (packet_bands h place) (packet_line h content (mode precinct) place)) (packets_of h precinct)

pub bits_of_each : {A : Type 0} (f : A → List ℕ) (xs : List A) → flat_map (λ x. bits_of_bytes (f x)) xs ≡ bits_of_bytes (flat_map f xs)
bits_of_each f [] = refl
bits_of_each f (x ∷ xs) = ap (λ l. bits_of_bytes (f x) ++ l) (bits_of_each f xs) ∙ sym (flat_map-append (bits_of 8) (f x) (flat_map f xs))

-- what a writer that begins with nothing ends with
pub finished : (bytes other none bits : List ℕ) → AreBytes bytes → AreBytes other → bits_of_bytes bytes ≡ bits → none ≡ [] → bits ≡ none ++ bits_of_bytes other → bytes ≡ other
finished bytes other none bits are others e empty put = bytes_by_bits bytes other are others (e ∙ put ∙ ap (λ l. l ++ bits_of_bytes other) empty)

-- and one that writes fields, up to a byte
pub head_finished : (bytes none bits aligned : List ℕ) (fields : List (ℕ × ℕ)) → AreBytes bytes → bits_of_bytes bytes ≡ aligned → none ≡ [] → bits ≡ none ++ bits_of_fields fields → aligned ≡ bits ++ replicate (missing_bits (length bits)) 0 → bytes ≡ field_bytes fields
head_finished bytes none bits aligned fields are e empty put align =
    let border : length none % 8 ≡ 0 = omega (arith, ap length empty) in
    finished bytes (field_bytes fields) none aligned are (packed_bytes (bits_of_fields fields) (fields-are fields)) e empty (part_bits none (bits_of_fields fields) bits aligned border (fields-are fields) put align)

-- Fields

pub each_fits : (h : Header) (content : Content) (mode : ℕ → ℕ → ℕ) (filler : ℕ → ℕ) (precinct number : ℕ) → precinct_fits h content mode filler precinct ≡ true → number < length (packets_of h precinct)
    → packet_fits h content (mode precinct) (packet_at h precinct number) ≡ true
each_fits h content mode filler precinct number fits inside =
    let both = and_parts (list_all (packet_fits h content (mode precinct)) (packets_of h precinct)) (nat_lt (length (precinct_body h content mode filler precinct)) (2 ^ 24)) fits in
    All-from_recursion (λ place. packet_fits h content (mode precinct) place ≡ true) (packets_of h precinct) (list_all-all (packet_fits h content (mode precinct)) (packets_of h precinct) both.0) number no_place inside

pub body_fits : (h : Header) (content : Content) (mode : ℕ → ℕ → ℕ) (filler : ℕ → ℕ) (precinct : ℕ) → precinct_fits h content mode filler precinct ≡ true → length (precinct_body h content mode filler precinct) < 2 ^ 24
body_fits h content mode filler precinct fits =
    let both = and_parts (list_all (packet_fits h content (mode precinct)) (packets_of h precinct)) (nat_lt (length (precinct_body h content mode filler precinct)) (2 ^ 24)) fits in
    ltb-true (length (precinct_body h content mode filler precinct)) (2 ^ 24) both.1

pub pairs_range : (f g : ℕ → ℕ) (first n : ℕ) → ((i : ℕ) → first ≤ i → i < first + n → f i ≡ g i) → map {B = ℕ × ℕ} (λ i. (2, f i)) (range_with_len first n) ≡ map {B = ℕ × ℕ} (λ i. (2, g i)) (range_with_len first n)
pairs_range f g first zero same = refl
pairs_range f g first (suc n) same =
    ap (λ k. (2, k) ∷ map {B = ℕ × ℕ} (λ i. (2, f i)) (range_with_len (first + 1) n)) (same first (omega arith) (omega arith))
    ∙ ap (λ (l : List (ℕ × ℕ)). (2, g first) ∷ l) (pairs_range f g (first + 1) n (λ i low high. same i (omega (arith, low)) (omega (arith, high))))

-- the header and the body are the precinct
pub precinct_same : (h : Header) (content : Content) (mode : ℕ → ℕ → ℕ) (filler : ℕ → ℕ) (precinct : ℕ) (lines : List Outgoing) (body : List ℕ) → body ≡ precinct_body h content mode filler precinct
    → length lines ≡ bands_of h → HaveModes h (mode precinct) lines
    → field_bytes ((24, length body) ∷ (8, content.q precinct) ∷ (8, content.r precinct) ∷ map {B = ℕ × ℕ} (λ band. (2, (get_or lines band no_outgoing).mode)) (upto (length lines))) ++ body ≡ precinct_bytes h content mode filler precinct
precinct_same h content mode filler precinct lines body same count modes =
    let whole = precinct_body h content mode filler precinct in
    ap (λ b. field_bytes ((24, length b) ∷ (8, content.q precinct) ∷ (8, content.r precinct) ∷ map {B = ℕ × ℕ} (λ band. (2, (get_or lines band no_outgoing).mode)) (upto (length lines))) ++ b) same
    ∙ ap (λ (l : List (ℕ × ℕ)). field_bytes ((24, length whole) ∷ (8, content.q precinct) ∷ (8, content.r precinct) ∷ l) ++ whole)
    (ap (λ n. map {B = ℕ × ℕ} (λ band. (2, (get_or lines band no_outgoing).mode)) (upto n)) count ∙ pairs_range (λ band. (get_or lines band no_outgoing).mode) (mode precinct) 0 (bands_of h) (λ i low high. modes i (omega (arith, high))))
