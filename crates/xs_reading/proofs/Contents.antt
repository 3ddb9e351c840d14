-- The content with the lines of packets: what it has of them, and what it leaves.
use Rattle.std.proofs.Common.{◌≡◌, ℕ, zero, suc, ◌+◌, ◌-◌, ◌*◌, ◌%◌, ◌≤◌, List, [], ◌∷◌, ◌++◌, map, take, drop, refl, sym, ap, subst, ◌∙◌, arith, append_assoc}
use Rattle.std.specs.Prelude.{Bool, true, false, not, ◌&&◌, nat_eq, if◌then◌else◌, max, None}
use Rattle.std.specs.List.{AllByRecursion, range_with_len}
use Rattle.std.proofs.Math.Nat.{zero-mod}
use Rattle.std.proofs.lemmas.Bool.{and_parts, eqb-true, eq-eqb, true≢false}
use Rattle.std.proofs.lemmas.List.{take-append-drop}
use Rattle.xs_lists.specs.Spelling.{SpellsEach}
use Rattle.xs_lists.specs.First.{first_some}
use Rattle.xs_lists.specs.Packing.{AreBytes}
use Rattle.xs_lists.proofs.Each.{range-all}
use Rattle.xs_lists.proofs.Cut.{all-each}
use Rattle.xs_params.specs.declared.header.Header.{Header}
use Rattle.xs_layout.specs.Geometry.{components_of, PacketPlace}
use Rattle.xs_layout.specs.Weighting.{truncation_of}
use Rattle.xs_spelling.specs.Counts.{Line, predicts_above}
use Rattle.xs_spelling.specs.ReadingLaws.{IsPredicted}
use Rattle.xs_params.specs.Geometry.{packet_bands, precinct_lines}
use Rattle.xs_grammar.specs.Precinct.{Content, coded_line, is_first_line, line_truncation, prediction_of, weight_of, precinct_of, SpellsPacket}
use Rattle.xs_grammar.proofs.OneSlice.{truncation_at, not_first}
use Rattle.xs_grammar.proofs.Local.{predictor_same, line_with}
use Rattle.xs_reading.specs.Packet.{packet_end, packet_fault, packet_lines}
use Rattle.xs_reading.specs.Precinct.{with_band_line, with_lines, place_lines, with_packet, with_packets, packets_fault}
use Rattle.xs_reading.specs.Laws.{HasRange}
use Rattle.xs_reading.proofs.Parts.{none_first, bytes-drop}
use Rattle.xs_reading.proofs.Lines.{AreReadOf}
use Rattle.xs_reading.proofs.Places.{IsBandOf, AreOrdered, Before, before_line, bands_in}
use Rattle.xs_reading.proofs.Spelled.{packet_spelled, packet_shaped}

-- Lines

abbrev pub Same : Content → Content → ℕ → ℕ → Type 0
Same content other band line = (content.count band line ≡ other.count band line) × (content.value band line ≡ other.value band line)

other_line : (content : Content) (band number : ℕ) (line : Line) (b l : ℕ) → (l ≡ number → b ≡ band → ⊥) → Same (with_band_line content band number line) content b l
other_line content band number line b l apart = cases (nat_eq b band && nat_eq l number) refl
  where
    cases : (test : Bool) → (nat_eq b band && nat_eq l number) ≡ test → ((if test then line.count else content.count b l) ≡ content.count b l) × ((if test then line.value else content.value b l) ≡ content.value b l)
    cases false e = (refl, refl)
    cases true e = let both = and_parts (nat_eq b band) (nat_eq l number) e in absurd (apart (eqb-true l number both.1) (eqb-true b band both.0))

own_line : (content : Content) (band number : ℕ) (line : Line) → ((with_band_line content band number line).count band number ≡ line.count) × ((with_band_line content band number line).value band number ≡ line.value)
own_line content band number line = cases (nat_eq band band) (nat_eq number number) (eq-eqb band band refl) (eq-eqb number number refl)
  where
    cases : (s t : Bool) → s ≡ true → t ≡ true → ((if s && t then line.count else content.count band number) ≡ line.count) × ((if s && t then line.value else content.value band number) ≡ line.value)
    cases true true e f = (refl, refl)
    cases false t e f = absurd (true≢false (sym e))
    cases true false e f = absurd (true≢false (sym f))

pub lines_leave : (content : Content) (number : ℕ) (bands : List ℕ) (lines : List Line) (b l : ℕ) → (l ≡ number → AllByRecursion (λ band. b ≡ band → ⊥) bands) → Same (with_lines content number bands lines) content b l
lines_leave content number [] lines b l apart = (refl, refl)
lines_leave content number (band ∷ bands) [] b l apart = (refl, refl)
lines_leave content number (band ∷ bands) (line ∷ lines) b l apart =
    let rest = lines_leave (with_band_line content band number line) number bands lines b l (λ e. (apart e).1) in
    let here = other_line content band number line b l (λ e. (apart e).0) in
    (rest.0 ∙ here.0, rest.1 ∙ here.1)

-- the lines that are given are there
pub lines_given : (known : ℕ → Line) (content : Content) (number first n : ℕ) (lines : List Line) → AreReadOf (map known (range_with_len first n)) lines
    → map (λ band. record (known band) { count = (with_lines content number (range_with_len first n) lines).count band number; value = (with_lines content number (range_with_len first n) lines).value band number }) (range_with_len first n) ≡ lines
lines_given known content number first zero [] m = refl
lines_given known content number first zero (line ∷ lines) m = absurd m
lines_given known content number first (suc n) [] m = absurd m
lines_given known content number first (suc n) (line ∷ lines) m =
    let next : Content = with_band_line content first number line in
    let after : Content = with_lines next number (range_with_len (first + 1) n) lines in
    let kept = lines_leave next number (range_with_len (first + 1) n) lines first number (λ _. range-all (λ band. first ≡ band → ⊥) (first + 1) n (λ band low high e. omega (arith, low, e))) in
    let own = own_line content first number line in
    ap (λ l. l ∷ map (λ band. record (known band) { count = after.count band number; value = after.value band number }) (range_with_len (first + 1) n))
    (ap (λ c. record (known first) { count = c; value = after.value first number }) (kept.0 ∙ own.0) ∙ ap (λ v. record (known first) { count = line.count; value = v }) (kept.1 ∙ own.1) ∙ sym m.0.0)
    ∙ ap (λ l. line ∷ l) (lines_given known next number (first + 1) n lines m.1)

pub lines_settings : (content : Content) (number : ℕ) (bands : List ℕ) (lines : List Line) → ((with_lines content number bands lines).q ≡ content.q) × ((with_lines content number bands lines).r ≡ content.r)
lines_settings content number [] lines = (refl, refl)
lines_settings content number (band ∷ bands) [] = (refl, refl)
lines_settings content number (band ∷ bands) (line ∷ lines) = lines_settings (with_band_line content band number line) number bands lines

pub lines_range : (h : Header) (content : Content) (number : ℕ) (bands : List ℕ) (known lines : List Line) → HasRange h content → AreReadOf known lines → HasRange h (with_lines content number bands lines)
lines_range h content number [] known lines range m = range
lines_range h content number (band ∷ bands) known [] range m = range
lines_range h content number (band ∷ bands) [] (line ∷ lines) range m = absurd m
lines_range h content number (band ∷ bands) (k ∷ known) (line ∷ lines) range m =
    lines_range h (with_band_line content band number line) number bands known lines (λ b l group. cases (nat_eq b band && nat_eq l number) b l group) m.1
  where
    cases : (test : Bool) (b l group : ℕ) → (if test then line.count else content.count b l) group ≤ 15
    cases true b l group = m.0.1 group
    cases false b l group = range b l group

-- Packets

pub packets_settings : (h : Header) (mode : ℕ → ℕ) (places : List PacketPlace) (content : Content) (bytes : List ℕ) → ((with_packets h mode places content bytes).q ≡ content.q) × ((with_packets h mode places content bytes).r ≡ content.r)
packets_settings h mode [] content bytes = (refl, refl)
packets_settings h mode (place ∷ places) content bytes =
    let rest = packets_settings h mode places (with_packet h mode place content bytes) (drop (packet_end h (place_lines h mode content place) bytes) bytes) in
    let here = lines_settings content place.line (packet_bands h place) (packet_lines h (place_lines h mode content place) bytes) in
    (rest.0 ∙ here.0, rest.1 ∙ here.1)

pub packet_leaves : (h : Header) (mode : ℕ → ℕ) (place : PacketPlace) (content : Content) (bytes : List ℕ) (b l : ℕ) → (IsBandOf h place b → l ≡ place.line → ⊥) → Same (with_packet h mode place content bytes) content b l
packet_leaves h mode place content bytes b l apart =
    lines_leave content place.line (packet_bands h place) (packet_lines h (place_lines h mode content place) bytes) b l (λ e. bands_in h place (λ band. b ≡ band → ⊥) (λ band of same. apart (subst (IsBandOf h place) (sym same) of) e))

pub packets_leave : (h : Header) (mode : ℕ → ℕ) (places : List PacketPlace) (content : Content) (bytes : List ℕ) (b l : ℕ) → AllByRecursion (λ place. IsBandOf h place b → l ≡ place.line → ⊥) places → Same (with_packets h mode places content bytes) content b l
packets_leave h mode [] content bytes b l apart = (refl, refl)
packets_leave h mode (place ∷ places) content bytes b l apart =
    let rest = packets_leave h mode places (with_packet h mode place content bytes) (drop (packet_end h (place_lines h mode content place) bytes) bytes) b l apart.1 in
    let here = packet_leaves h mode place content bytes b l apart.0 in
    (rest.0 ∙ here.0, rest.1 ∙ here.1)

-- what is known before a line is read is in range
pub predicted_line : (h : Header) (content : Content) (mode band line : ℕ) → HasRange h content → IsPredicted (coded_line h content mode band line)
predicted_line h content mode band line range = record {
  least = λ group inside. (cases (predicts_above mode && not (is_first_line h band line)) group).0;
  most = λ group inside. (cases (predicts_above mode && not (is_first_line h band line)) group).1;
}
  where
    cut : (l : ℕ) → line_truncation h content band l ≤ 15
    cut l = least (content.q (precinct_of h band l)) (content.r (precinct_of h band l))
      where
        least : (q r : ℕ) → truncation_of q r (weight_of h band) ≤ 15
        least q r = omega arith

    cases : (test : Bool) (group : ℕ) → (line_truncation h content band line ≤ (if test then max (max (content.count band (line - 1) group) (line_truncation h content band (line - 1))) (line_truncation h content band line) else line_truncation h content band line))
        × ((if test then max (max (content.count band (line - 1) group) (line_truncation h content band (line - 1))) (line_truncation h content band line) else line_truncation h content band line) ≤ 15)
    cases true group = (omega arith, omega (arith, range band (line - 1) group, cut (line - 1), cut line))
    cases false group = (omega arith, cut line)

-- a line is coded as in a content that has the same settings and line above
pub line_moves : (h : Header) (content other : Content) (mode band line : ℕ) → (content.q ≡ other.q) × (content.r ≡ other.r)
    → (is_first_line h band line ≡ false → content.count band (line - 1) ≡ other.count band (line - 1))
    → coded_line h content mode band line ≡ record (coded_line h other mode band line) { count = content.count band line; value = content.value band line }
line_moves h content other mode band line settings above =
    ap (λ t. line_with h mode band t (prediction_of h content mode band line) (content.count band line) (content.value band line)) (cut line)
    ∙ ap (λ p. line_with h mode band (line_truncation h other band line) p (content.count band line) (content.value band line)) prediction
  where
    cut : (l : ℕ) → line_truncation h content band l ≡ line_truncation h other band l
    cut l = truncation_at h content other band l (precinct_of h band l) refl (ap (λ f. f (precinct_of h band l)) settings.0) (ap (λ f. f (precinct_of h band l)) settings.1)

    prediction : prediction_of h content mode band line ≡ prediction_of h other mode band line
    prediction = predictor_same (predicts_above mode && not (is_first_line h band line)) (content.count band (line - 1)) (other.count band (line - 1))
        (line_truncation h content band (line - 1)) (line_truncation h other band (line - 1)) (line_truncation h content band line) (line_truncation h other band line)
        (λ e. (above (not_first (is_first_line h band line) (and_parts (predicts_above mode) (not (is_first_line h band line)) e).1), cut (line - 1))) (cut line)

-- the first line of a band is the first of its slice
pub not_zero : (h : Header) (band line : ℕ) → is_first_line h band line ≡ false → line ≡ 0 → ⊥
not_zero h band line e z = true≢false (sym (eq-eqb (line % (h.hsl * precinct_lines h band)) 0 (ap (λ l. l % (h.hsl * precinct_lines h band)) z ∙ zero-mod (h.hsl * precinct_lines h band))) ∙ e)

-- Packets without a fault

pub record ArePacketsSpelled (h : Header) (mode : ℕ → ℕ) (places : List PacketPlace) (content : Content) (bytes : List ℕ) : Type 0 where
  pub front : List ℕ
  pub rest : List ℕ
  pub joined : bytes ≡ front ++ rest
  pub spelled : SpellsEach (SpellsPacket h (with_packets h mode places content bytes) mode) places front
  pub range : HasRange h (with_packets h mode places content bytes)

maps_same : (f g : ℕ → Line) (xs : List ℕ) → AllByRecursion (λ x. f x ≡ g x) xs → map f xs ≡ map g xs
maps_same f g [] h = refl
maps_same f g (x ∷ xs) h = ap (λ l. l ∷ map f xs) h.0 ∙ ap (λ l. g x ∷ l) (maps_same f g xs h.1)

pub packets_spelled : (h : Header) (mode : ℕ → ℕ) (number : ℕ) (places : List PacketPlace) (content : Content) (bytes : List ℕ) → AreOrdered places → HasRange h content → AreBytes bytes
    → packets_fault h mode number places content bytes ≡ None → ArePacketsSpelled h mode places content bytes
packets_spelled h mode number [] content bytes order range are none = record { front = []; rest = bytes; joined = refl; spelled = refl; range = range }
packets_spelled h mode number (place ∷ places) content bytes order range are none =
    step (packets_spelled h mode (number + 1) places next left order.1 next_range (bytes-drop (packet_end h lines bytes) bytes are) (none_first (packets_fault h mode (number + 1) places next left) [] two.1).0)
  where
    lines : List Line
    lines = place_lines h mode content place

    next : Content
    next = with_packet h mode place content bytes

    left : List ℕ
    left = drop (packet_end h lines bytes) bytes

    two : (packet_fault h number lines bytes ≡ None) × (first_some (packets_fault h mode (number + 1) places next left ∷ []) ≡ None)
    two = none_first (packet_fault h number lines bytes) (packets_fault h mode (number + 1) places next left ∷ []) none

    known : AllByRecursion IsPredicted lines
    known = all-lines (packet_bands h place)
      where
        all-lines : (bands : List ℕ) → AllByRecursion IsPredicted (map (λ band. coded_line h content (mode band) band place.line) bands)
        all-lines [] = tt
        all-lines (band ∷ bands) = (predicted_line h content (mode band) band place.line range, all-lines bands)

    shaped : AreReadOf lines (packet_lines h lines bytes)
    shaped = packet_shaped h number lines bytes known two.0

    next_range : HasRange h next
    next_range = lines_range h content place.line (packet_bands h place) lines (packet_lines h lines bytes) range shaped

    final : Content
    final = with_packets h mode places next left

    settings : (final.q ≡ content.q) × (final.r ≡ content.r)
    settings =
        let a = packets_settings h mode places next left in
        let b = lines_settings content place.line (packet_bands h place) (packet_lines h lines bytes) in
        (a.0 ∙ b.0, a.1 ∙ b.1)

    -- later packets leave this one's lines, and those above them
    kept : (band l : ℕ) → IsBandOf h place band → l ≤ place.line → Same final next band l
    kept band l of low = packets_leave h mode places next left band l
        (all-each (Before place) (λ q. IsBandOf h q band → l ≡ q.line → ⊥) places (λ q before there e. let less = before_line h place q band before of there in omega (arith, less, e, low)) order.0)

    own : (band : ℕ) → IsBandOf h place band
        → coded_line h final (mode band) band place.line ≡ record (coded_line h content (mode band) band place.line) { count = next.count band place.line; value = next.value band place.line }
    own band of =
        let here = kept band place.line of (omega arith) in
        line_moves h final content (mode band) band place.line settings
        (λ f. let some = not_zero h band place.line f in (kept band (place.line - 1) of (omega arith)).0 ∙ (packet_leaves h mode place content bytes band (place.line - 1) (λ _ e. some (omega (arith, e)))).0)
        ∙ ap (λ c. record (coded_line h content (mode band) band place.line) { count = c; value = final.value band place.line }) here.0
        ∙ ap (λ v. record (coded_line h content (mode band) band place.line) { count = next.count band place.line; value = v }) here.1

    of-lines : map (λ band. coded_line h final (mode band) band place.line) (packet_bands h place) ≡ packet_lines h lines bytes
    of-lines = maps_same (λ band. coded_line h final (mode band) band place.line) (λ band. record (coded_line h content (mode band) band place.line) { count = next.count band place.line; value = next.value band place.line }) (packet_bands h place)
        (bands_in h place (λ band. coded_line h final (mode band) band place.line ≡ record (coded_line h content (mode band) band place.line) { count = next.count band place.line; value = next.value band place.line }) own)
        ∙ lines_given (λ band. coded_line h content (mode band) band place.line) content place.line (place.first_type * components_of h.shape.format) (place.types * components_of h.shape.format) (packet_lines h lines bytes) shaped

    step : ArePacketsSpelled h mode places next left → ArePacketsSpelled h mode (place ∷ places) content bytes
    step rest =
        let first = packet_spelled h number (place.first_type * components_of h.shape.format) (place.types * components_of h.shape.format) (λ band. coded_line h final (mode band) band place.line) lines bytes are known two.0 of-lines in
        record {
          front = take (packet_end h lines bytes) bytes ++ rest.front;
          rest = rest.rest;
          joined = sym (take-append-drop (packet_end h lines bytes) bytes) ∙ ap (λ l. take (packet_end h lines bytes) bytes ++ l) rest.joined ∙ sym (append_assoc (take (packet_end h lines bytes) bytes) rest.front rest.rest);
          spelled = (take (packet_end h lines bytes) bytes, rest.front, refl, first.1, rest.spelled);
          range = rest.range;
        }
