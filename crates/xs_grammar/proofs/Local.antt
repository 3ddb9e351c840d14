-- A slice speaks of its own part of the content alone.
use Rattle.std.proofs.Math.Pow.{shr_mono}
use Rattle.std.proofs.Common.{◌≡◌, ℕ, ◌+◌, ◌-◌, ◌*◌, ◌/◌, ◌%◌, ◌^◌, ◌<◌, ◌≤◌, List, [], ◌∷◌, ◌++◌, map, length, refl, sym, ap, subst, ◌∙◌, arith}
use Rattle.std.proofs.Math.Nat.{div-div-eq-div-mul, div-add-mod, mod-lt, mul_comm}
use Rattle.std.proofs.lemmas.Nat.{div-mul-add, pow_pos}
use Rattle.std.proofs.lemmas.Bool.{true≢false, and_parts, eq-eqb}
use Rattle.std.specs.Prelude.{Bool, true, false, not, ◌&&◌, if◌then◌else◌, max, min, nat_eq, ℤ}
use Rattle.std.specs.Bool.{MatchBool}
use Rattle.std.specs.List.{AllByRecursion, range_with_len, flat_map}
use Rattle.xs_params.specs.declared.header.Header.{Header}
use Rattle.xs_lists.specs.Bits.{bits_of_fields, FieldsFit}
use Rattle.xs_lists.specs.Spelling.{upto, downto, SpellsBits, SpellsPadded}
use Rattle.xs_lists.proofs.Each.{range-all, each-same}
use Rattle.xs_lists.proofs.Cut.{all-each}
use Rattle.xs_lists.proofs.Walk.{all-filter, all-of_map, all-of_flat, downto-all}
use Rattle.xs_layout.specs.Geometry.{groups_of, components_of, PacketPlace}
use Rattle.xs_params.specs.Geometry.{band_type_of, band_width_of, bands_of, precinct_lines, precinct_count, precincts_of, packet_bands, packet_places, packets_of, has_line}
use Rattle.xs_spelling.specs.Counts.{Line, predicts_above, flag_bits, SpellsCounts, SpellsRawCounts}
use Rattle.xs_spelling.specs.Data.{SpellsData, sign_bits}
use Rattle.xs_grammar.specs.Packet.{IsPacket, SpellsBandCounts}
use Rattle.xs_grammar.specs.Precinct.{Content, precinct_of, is_first_line, line_truncation, prediction_of, coded_line, precinct_fields, SpellsPacket, IsPrecinct}
use Rattle.xs_grammar.specs.Laws.{AgreeUpTo, PrecinctIsLocal, SliceIsLocal}
use Rattle.xs_grammar.proofs.Bands.{wide_band, deep_band}
use Rattle.xs_grammar.proofs.OneSlice.{line_in, not_first, truncation_at, wide_place, deep_place, line_places, level_places}

-- A packet is one of any lines that are the same

same_joins : (f g : ℕ → List ℕ) (xs : List ℕ) → AllByRecursion (λ x. f x ≡ g x) xs → flat_map f xs ≡ flat_map g xs
same_joins f g [] h = refl
same_joins f g (x ∷ xs) h = ap (λ l. l ++ flat_map f xs) h.0 ∙ ap (λ l. g x ++ l) (same_joins f g xs h.1)

counts_move : (raw : Bool) (run_mode : ℕ) (bands : List ℕ) (line other : ℕ → Line) (flag : ℕ → ℕ → ℕ) (bits : List ℕ) → AllByRecursion (λ band. line band ≡ other band) bands
    → SpellsBandCounts raw run_mode bands line flag bits → SpellsBandCounts raw run_mode bands other flag bits
counts_move true run_mode bands line other flag bits same p =
    each-same (λ band. SpellsRawCounts (line band)) (λ band. SpellsRawCounts (other band)) bands bits (all-each (λ band. line band ≡ other band) _ bands (λ band e l p. subst (λ x. SpellsRawCounts x l) e p) same) p
counts_move false run_mode bands line other flag bits same p =
    each-same (λ band. SpellsCounts run_mode (line band) (flag band)) (λ band. SpellsCounts run_mode (other band) (flag band)) bands bits
    (all-each (λ band. line band ≡ other band) _ bands (λ band e l p. subst (λ x. SpellsCounts run_mode x (flag band) l) e p) same) p

packet_moves : (h : Header) (bands : List ℕ) (line other : ℕ → Line) (bytes : List ℕ) → AllByRecursion (λ band. line band ≡ other band) bands → IsPacket h bands line bytes → IsPacket h bands other bytes
packet_moves h bands line other bytes same p = record {
  raw = p.raw;
  head = p.head;
  significance = p.significance;
  counts = p.counts;
  planes = p.planes;
  signs = p.signs;
  joined = p.joined;
  stated = p.stated;
  room = p.room;
  headed = p.headed;
  flag = p.flag;
  flagged = subst (λ l. SpellsPadded p.significance (if p.raw then [] else l)) flags p.flagged;
  counted = (p.counted.0, p.counted.1, p.counted.2, counts_move p.raw h.run_mode bands line other p.flag p.counted.0 same p.counted.3);
  filled = (
    p.filled.0,
    p.filled.1,
    p.filled.2,
    each-same (λ band. SpellsData h.signs_apart (line band)) (λ band. SpellsData h.signs_apart (other band)) bands p.filled.0
        (all-each (λ band. line band ≡ other band) _ bands (λ band e l q. subst (λ x. SpellsData h.signs_apart x l) e q) same) p.filled.3,
  );
  signed = subst (λ l. MatchBool h.signs_apart ((p.stated ≡ length p.signs) × SpellsBits p.signs l) (p.signs ≡ [])) signs p.signed;
}
  where
    flags : flat_map (λ band. flag_bits (line band) (p.flag band)) bands ≡ flat_map (λ band. flag_bits (other band) (p.flag band)) bands
    flags = same_joins (λ band. flag_bits (line band) (p.flag band)) (λ band. flag_bits (other band) (p.flag band)) bands
        (all-each (λ band. line band ≡ other band) (λ band. flag_bits (line band) (p.flag band) ≡ flag_bits (other band) (p.flag band)) bands (λ band e. ap (λ x. flag_bits x (p.flag band)) e) same)

    signs : flat_map (λ band. sign_bits (line band)) bands ≡ flat_map (λ band. sign_bits (other band)) bands
    signs = same_joins (λ band. sign_bits (line band)) (λ band. sign_bits (other band)) bands
        (all-each (λ band. line band ≡ other band) (λ band. sign_bits (line band) ≡ sign_bits (other band)) bands (λ band e. ap sign_bits e) same)

-- The line above one that is not the first of its slice is of the same slice

pub above_in : (line lines hsl : ℕ) → 0 < hsl * lines → nat_eq (line % (hsl * lines)) 0 ≡ false → (line - 1) / lines / hsl ≡ line / lines / hsl
above_in line lines hsl some f =
    div-div-eq-div-mul (line - 1) lines hsl ∙ ap (λ n. (line - 1) / n) (mul_comm lines hsl) ∙ same (hsl * lines) some f
    ∙ sym (div-div-eq-div-mul line lines hsl ∙ ap (λ n. line / n) (mul_comm lines hsl))
  where
    same : (size : ℕ) → 0 < size → nat_eq (line % size) 0 ≡ false → (line - 1) / size ≡ line / size
    same size some f =
        let part : line / size * size + line % size ≡ line = ap (λ n. n + line % size) (mul_comm (line / size) size) ∙ div-add-mod line size in
        let rest : line % size < size = mod-lt line some in
        let nonzero : line % size ≡ 0 → ⊥ = λ e. true≢false (sym (eq-eqb (line % size) 0 e) ∙ f) in
        let before : line - 1 ≡ line / size * size + (line % size - 1) = omega (arith, part, nonzero) in
        ap (λ n. n / size) before ∙ div-mul-add (line / size) size (line % size - 1) (omega (arith, rest))

-- A line of the slice is coded alike

abbrev pub predictor : Bool → (ℕ → ℕ) → ℕ → ℕ → ℕ → ℕ
predictor s c u t = λ group. if s then max (max (c group) u) t else t

pub predictor_same : (s : Bool) (c d : ℕ → ℕ) (u v t w : ℕ) → (s ≡ true → (c ≡ d) × (u ≡ v)) → t ≡ w → predictor s c u t ≡ predictor s d v w
predictor_same true c d u v t w h e =
    ap (λ c. predictor true c u t) (h refl).0 ∙ ap (λ u. predictor true d u t) (h refl).1 ∙ ap (λ t. predictor true d v t) e
predictor_same false c d u v t w h e = ap (λ t. predictor false c u t) e

abbrev pub line_with : Header → ℕ → ℕ → ℕ → (ℕ → ℕ) → (ℕ → ℕ) → (ℕ → ℤ) → Line
line_with h mode band truncation prediction count value =
    record { groups = groups_of (band_width_of h band); mode = mode; truncation = truncation; prediction = prediction; count = count; value = value }

line_same : (h : Header) (content other : Content) (slice last mode band line : ℕ) → 1 ≤ h.hsl → AgreeUpTo h content other slice last → precinct_of h band line / h.hsl ≡ slice → precinct_of h band line ≤ last
    → coded_line h content mode band line ≡ coded_line h other mode band line
line_same h content other slice last mode band line some agree here low =
    ap (λ t. line_with h mode band t (prediction_of h content mode band line) (content.count band line) (content.value band line)) cut
    ∙ ap (λ p. line_with h mode band (line_truncation h other band line) p (content.count band line) (content.value band line)) prediction
    ∙ ap (λ c. line_with h mode band (line_truncation h other band line) (prediction_of h other mode band line) c (content.value band line)) (agree.count band line here low)
    ∙ ap (λ v. line_with h mode band (line_truncation h other band line) (prediction_of h other mode band line) (other.count band line) v) (agree.value band line here low)
  where
    cut_at : (l : ℕ) → precinct_of h band l / h.hsl ≡ slice → precinct_of h band l ≤ last → line_truncation h content band l ≡ line_truncation h other band l
    cut_at l e n = truncation_at h content other band l (precinct_of h band l) refl (agree.q (precinct_of h band l) e n) (agree.r (precinct_of h band l) e n)

    cut : line_truncation h content band line ≡ line_truncation h other band line
    cut = cut_at line here low

    size : 0 < h.hsl * precinct_lines h band
    size = let lines : 0 < precinct_lines h band = pow_pos _ in grind (arith, some, lines)

    earlier : precinct_of h band (line - 1) ≤ last
    earlier = let less : (line - 1) / precinct_lines h band ≤ line / precinct_lines h band = shr_mono {a = line - 1} {b = line} (h.nly - (band_type_of h band).down) (omega arith) in omega (arith, less, low)

    above : (predicts_above mode && not (is_first_line h band line)) ≡ true → (content.count band (line - 1) ≡ other.count band (line - 1)) × (line_truncation h content band (line - 1) ≡ line_truncation h other band (line - 1))
    above e =
        let both : (predicts_above mode ≡ true) × (not (is_first_line h band line) ≡ true) = and_parts (predicts_above mode) (not (is_first_line h band line)) e in
        let inside = above_in line (precinct_lines h band) h.hsl size (not_first (is_first_line h band line) both.1) ∙ here in
        let before : precinct_of h band (line - 1) ≤ last = earlier in
        (agree.count band (line - 1) inside before, cut_at (line - 1) inside before)

    prediction : prediction_of h content mode band line ≡ prediction_of h other mode band line
    prediction = predictor_same (predicts_above mode && not (is_first_line h band line)) (content.count band (line - 1)) (other.count band (line - 1))
        (line_truncation h content band (line - 1)) (line_truncation h other band (line - 1)) (line_truncation h content band line) (line_truncation h other band line) above cut

-- A precinct of the slice

place_moves : (h : Header) (content other : Content) (slice precinct : ℕ) (mode : ℕ → ℕ) (place : PacketPlace) → 1 ≤ h.hsl → AgreeUpTo h content other slice precinct → precinct / h.hsl ≡ slice
    → AllByRecursion (λ band. precinct_of h band place.line ≡ precinct) (packet_bands h place)
    → (bytes : List ℕ) → SpellsPacket h content mode place bytes → SpellsPacket h other mode place bytes
place_moves h content other slice precinct mode place some agree here inside bytes p =
    packet_moves h (packet_bands h place) (λ band. coded_line h content (mode band) band place.line) (λ band. coded_line h other (mode band) band place.line) bytes
    (all-each (λ band. precinct_of h band place.line ≡ precinct) _ (packet_bands h place)
    (λ band e. line_same h content other slice precinct (mode band) band place.line some agree (ap (λ p. p / h.hsl) e ∙ here) (omega (arith, e))) inside) p

precinct_moves : (h : Header) (content other : Content) (slice precinct : ℕ) (bytes : List ℕ) → 1 ≤ h.hsl → h.nly ≤ h.nlx → AgreeUpTo h content other slice precinct → precinct / h.hsl ≡ slice
    → IsPrecinct h content precinct bytes → IsPrecinct h other precinct bytes
precinct_moves h content other slice precinct bytes some below agree here p = record {
  head = p.head;
  body = p.body;
  joined = p.joined;
  mode = p.mode;
  room = subst FieldsFit fields p.room;
  headed = subst (λ f. SpellsPadded p.head (bits_of_fields f)) fields p.headed;
  filled = (p.filled.0, p.filled.1, p.filled.2, each-same (SpellsPacket h content p.mode) (SpellsPacket h other p.mode) (packets_of h precinct) p.filled.0 places p.filled.3);
}
  where
    Moves : PacketPlace → Type 0
    Moves place = (bytes : List ℕ) → SpellsPacket h content p.mode place bytes → SpellsPacket h other p.mode place bytes

    fields : precinct_fields h content precinct (length p.body) p.mode ≡ precinct_fields h other precinct (length p.body) p.mode
    fields = ap (λ q. (24, length p.body) ∷ (8, q) ∷ (8, content.r precinct) ∷ map (λ band. (2, p.mode band)) (upto (bands_of h))) (agree.q precinct here (omega arith))
        ∙ ap (λ r. (24, length p.body) ∷ (8, other.q precinct) ∷ (8, r) ∷ map (λ band. (2, p.mode band)) (upto (bands_of h))) (agree.r precinct here (omega arith))

    wide : Moves (wide_place h precinct)
    wide = place_moves h content other slice precinct p.mode (wide_place h precinct) some agree here
        (range-all (λ band. precinct_of h band precinct ≡ precinct) (0 * components_of h.shape.format) ((h.nlx - h.nly + 1) * components_of h.shape.format)
        (λ band low high. line_in (precinct_lines h band) precinct precinct 0 (wide_band h band below (omega (arith, high))).0 (omega arith) (omega arith)))

    deep : (level : ℕ) → 1 ≤ level → level < h.nly + 1 → (line : ℕ) → precinct * 2 ^ (h.nly - level) ≤ line → line < precinct * 2 ^ (h.nly - level) + 2 ^ (h.nly - level)
        → (side : ℕ) → side < 3 → Moves (deep_place h level line side)
    deep level low high line from to side inside = place_moves h content other slice precinct p.mode (deep_place h level line side) some agree here
        (range-all (λ band. precinct_of h band line ≡ precinct) ((h.nlx - h.nly + 1 + 3 * (h.nly - level) + side) * components_of h.shape.format) (1 * components_of h.shape.format)
        (λ band lower upper. line_in (precinct_lines h band) precinct line (h.nly - level) (deep_band h level side band below low (omega (arith, high)) inside lower upper).0 from to))

    places : AllByRecursion Moves (packets_of h precinct)
    places = all-filter Moves (has_line h) (packet_places h precinct) (
      (λ _. wide),
      all-of_flat (λ place. has_line h place ≡ true → Moves place) (level_places h precinct) (downto (h.nly + 1) 1)
          (downto-all (λ level. AllByRecursion (λ place. has_line h place ≡ true → Moves place) (level_places h precinct level)) (h.nly + 1) 1 (λ level low high.
          all-of_flat (λ place. has_line h place ≡ true → Moves place) (line_places h level) (range_with_len (precinct * 2 ^ (h.nly - level)) (2 ^ (h.nly - level)))
          (range-all (λ line. AllByRecursion (λ place. has_line h place ≡ true → Moves place) (line_places h level line)) (precinct * 2 ^ (h.nly - level)) (2 ^ (h.nly - level)) (λ line from to.
          all-of_map (λ place. has_line h place ≡ true → Moves place) (deep_place h level line) (upto 3)
          (range-all (λ side. has_line h (deep_place h level line side) ≡ true → Moves (deep_place h level line side)) 0 3 (λ side _ inside _. deep level low high line from to side inside)))))),
    )

pub precinct_is_local : PrecinctIsLocal
precinct_is_local h content other precinct bytes some below agree p = precinct_moves h content other (precinct / h.hsl) precinct bytes some below agree refl p

-- A slice

pub slice_is_local : SliceIsLocal
slice_is_local h content other slice bytes some below agree p = record {
  index = p.index;
  body = p.body;
  joined = p.joined;
  spelled = each-same (IsPrecinct h content) (IsPrecinct h other) (precincts_of h slice) p.body
      (range-all _ (slice * h.hsl) (min ((slice + 1) * h.hsl) (precinct_count h) - slice * h.hsl)
      (λ precinct low high bytes p. precinct_moves h content other slice precinct bytes some below (up_to precinct) (in_slice h.hsl slice precinct some low (omega (arith, high, low))) p)) p.spelled;
}
  where
    in_slice : (hsl slice precinct : ℕ) → 1 ≤ hsl → slice * hsl ≤ precinct → precinct < (slice + 1) * hsl → precinct / hsl ≡ slice
    in_slice hsl slice precinct some low high =
        let part : precinct ≡ slice * hsl + (precinct - slice * hsl) = omega (arith, low) in
        ap (λ n. n / hsl) part ∙ div-mul-add slice hsl (precinct - slice * hsl) (omega (arith, low, high))

    up_to : (last : ℕ) → AgreeUpTo h content other slice last
    up_to last = record { q = λ precinct e n. agree.q precinct e; r = λ precinct e n. agree.r precinct e; count = λ band line e n. agree.count band line e; value = λ band line e n. agree.value band line e }
