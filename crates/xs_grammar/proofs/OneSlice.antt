-- The bytes of a slice are of one content.
use Rattle.std.proofs.Common.{◌≡◌, ℕ, ◌+◌, ◌-◌, ◌*◌, ◌/◌, ◌%◌, ◌^◌, ◌<◌, ◌≤◌, List, [], ◌∷◌, ◌++◌, map, length, refl, sym, ap, subst, ◌∙◌, arith, append_assoc, inl, inr}
use Rattle.std.proofs.Math.Nat.{mul-mod_left, mul_assoc}
use Rattle.std.proofs.lemmas.Nat.{shr_high, pow_pos}
use Rattle.std.proofs.lemmas.Bool.{true≢false, false≢true, ltb-true, lt-ltb, and_parts, cases_eq, eq-eqb}
use Rattle.std.specs.Prelude.{Bool, true, false, not, ◌&&◌, if◌then◌else◌, max, min, nat_lt, ◌⊎◌}
use Rattle.std.specs.Bool.{MatchBool}
use Rattle.std.specs.List.{AllByRecursion, range_with_len, flat_map}
use Rattle.xs_params.specs.declared.header.Header.{Header}
use Rattle.xs_lists.specs.Spelling.{upto, downto, SpellsEach}
use Rattle.xs_lists.proofs.Each.{each-agree, range-all, all-range}
use Rattle.xs_lists.proofs.Cut.{same_head, append_cut, all-each, all-downto, padded_agrees}
use Rattle.xs_lists.proofs.Walk.{each-filter, each-of_map, each-of_flat, all-filter, all-of_map, all-of_flat, downto-all, each-walk}
use Rattle.xs_layout.specs.Geometry.{groups_of, components_of, PacketPlace}
use Rattle.xs_params.specs.Geometry.{band_width_of, band_height_of, bands_of, precinct_lines, precinct_count, packet_bands, packet_places, packets_of, has_line}
use Rattle.xs_spelling.specs.Counts.{predicts_above}
use Rattle.xs_grammar.specs.Precinct.{Content, precinct_of, is_first_line, line_truncation, prediction_of, coded_line, weight_of, precinct_fields, SpellsPacket, IsPrecinct}
use Rattle.xs_layout.specs.Weighting.{truncation_of}
use Rattle.xs_grammar.specs.Slice.{slice_head}
use Rattle.xs_spelling.specs.Laws.{SameBefore}
use Rattle.xs_grammar.specs.Laws.{SameLine, SameBandLine, SamePrecinct, OneSlice}
use Rattle.xs_grammar.proofs.OnePacket.{one_packet}
use Rattle.xs_grammar.proofs.Bands.{wide_band, deep_band}

-- Arithmetic of lines

-- the precinct of a line that is between its first and its last one
pub line_in : (lines precinct line e : ℕ) → lines ≡ 2 ^ e → precinct * 2 ^ e ≤ line → line < precinct * 2 ^ e + 2 ^ e → line / lines ≡ precinct
line_in lines precinct line e size low high =
    let part : line ≡ precinct * 2 ^ e + (line - precinct * 2 ^ e) = omega (arith, low) in
    ap (λ l. line / l) size ∙ ap (λ l. l / 2 ^ e) part ∙ shr_high precinct e (line - precinct * 2 ^ e) (omega (arith, low, high))

-- the first line of a slice
pub first_line : (h : Header) (band slice : ℕ) → is_first_line h band (slice * h.hsl * precinct_lines h band) ≡ true
first_line h band slice =
    let rest : slice * h.hsl * precinct_lines h band % (h.hsl * precinct_lines h band) ≡ 0 =
    ap (λ n. n % (h.hsl * precinct_lines h band)) (mul_assoc slice h.hsl (precinct_lines h band)) ∙ mul-mod_left slice (h.hsl * precinct_lines h band) in
    eq-eqb (slice * h.hsl * precinct_lines h band % (h.hsl * precinct_lines h band)) 0 rest

-- One packet

-- what is known of a band's line before its packet is read
record Above (h : Header) (content other : Content) (band line : ℕ) : Type 0 where
  cut : line_truncation h content band line ≡ line_truncation h other band line
  same : is_first_line h band line ≡ false → SameBandLine h content other band (line - 1)
  above : is_first_line h band line ≡ false → line_truncation h content band (line - 1) ≡ line_truncation h other band (line - 1)

pub not_first : (b : Bool) → not b ≡ true → b ≡ false
not_first true e = absurd (false≢true e)
not_first false e = refl

predictions : (h : Header) (content other : Content) (mode modes band line : ℕ) → mode ≡ modes → Above h content other band line
    → (group : ℕ) → group < groups_of (band_width_of h band) → prediction_of h content mode band line group ≡ prediction_of h other modes band line group
predictions h content other mode modes band line same known group inside =
    go (predicts_above mode && not (is_first_line h band line)) (predicts_above modes && not (is_first_line h band line)) (ap (λ m. predicts_above m && not (is_first_line h band line)) same) first
  where
    first : (predicts_above mode && not (is_first_line h band line)) ≡ true → is_first_line h band line ≡ false
    first e = let both : (predicts_above mode ≡ true) × (not (is_first_line h band line) ≡ true) = and_parts (predicts_above mode) (not (is_first_line h band line)) e in not_first (is_first_line h band line) both.1

    go : (s r : Bool) → s ≡ r → (s ≡ true → is_first_line h band line ≡ false)
        → (if s then max (max (content.count band (line - 1) group) (line_truncation h content band (line - 1))) (line_truncation h content band line) else line_truncation h content band line)
        ≡ (if r then max (max (other.count band (line - 1) group) (line_truncation h other band (line - 1))) (line_truncation h other band line) else line_truncation h other band line)
    go true true e f =
        ap (λ n. max (max n (line_truncation h content band (line - 1))) (line_truncation h content band line)) ((known.same (f refl)).counts group inside)
        ∙ ap (λ n. max (max (other.count band (line - 1) group) n) (line_truncation h content band line)) (known.above (f refl))
        ∙ ap (λ n. max (max (other.count band (line - 1) group) (line_truncation h other band (line - 1))) n) known.cut
    go false false e f = known.cut
    go true false e f = absurd (true≢false e)
    go false true e f = absurd (false≢true e)

packet_agrees : (h : Header) (content other : Content) (mode modes : ℕ → ℕ) (place : PacketPlace)
    → AllByRecursion (λ band. (mode band ≡ modes band) × Above h content other band place.line) (packet_bands h place)
    → (a b y z : List ℕ) → SpellsPacket h content mode place a → SpellsPacket h other modes place b → a ++ y ≡ b ++ z
    → (y ≡ z) × AllByRecursion (λ band. SameBandLine h content other band place.line) (packet_bands h place)
packet_agrees h content other mode modes place known a b y z p q e =
    let same = one_packet h (packet_bands h place) (λ band. coded_line h content (mode band) band place.line) (λ band. coded_line h other (modes band) band place.line) a b y z
    (all-each (λ band. (mode band ≡ modes band) × Above h content other band place.line) (λ band. SameBefore (coded_line h content (mode band) band place.line) (coded_line h other (modes band) band place.line)) (packet_bands h place)
    (λ band known. record { groups = refl; mode = known.0; truncation = known.1.cut; prediction = predictions h content other (mode band) (modes band) band place.line known.0 known.1 }) known) p q e in (
      same.0,
      all-each (λ band. SameLine (coded_line h content (mode band) band place.line) (coded_line h other (modes band) band place.line)) (λ band. SameBandLine h content other band place.line) (packet_bands h place)
          (λ band same. record { counts = same.counts; values = same.values }) same.1,
    )

-- One precinct

abbrev pub wide_place : Header → ℕ → PacketPlace
wide_place h precinct = record { first_type = 0; types = h.nlx - h.nly + 1; line = precinct }

abbrev pub deep_place : Header → ℕ → ℕ → ℕ → PacketPlace
deep_place h level line side = record { first_type = h.nlx - h.nly + 1 + 3 * (h.nly - level) + side; types = 1; line = line }

abbrev pub line_places : Header → ℕ → ℕ → List PacketPlace
line_places h level line = map (deep_place h level line) (upto 3)

abbrev pub level_places : Header → ℕ → ℕ → List PacketPlace
level_places h precinct level = flat_map (line_places h level) (range_with_len (precinct * 2 ^ (h.nly - level)) (2 ^ (h.nly - level)))

-- the contents agree at a place, if it is there
abbrev SameAt : Header → Content → Content → PacketPlace → Type 0
SameAt h content other place = has_line h place ≡ true → AllByRecursion (λ band. SameBandLine h content other band place.line) (packet_bands h place)

-- the contents agree on a precinct, by levels
record Known (h : Header) (content other : Content) (precinct : ℕ) : Type 0 where
  q : content.q precinct ≡ other.q precinct
  r : content.r precinct ≡ other.r precinct
  wide : SameAt h content other (wide_place h precinct)
  deep : (level : ℕ) → 1 ≤ level → level ≤ h.nly → (line : ℕ) → precinct * 2 ^ (h.nly - level) ≤ line → line < precinct * 2 ^ (h.nly - level) + 2 ^ (h.nly - level)
      → (side : ℕ) → side < 3 → SameAt h content other (deep_place h level line side)

same_precinct : (h : Header) (content other : Content) (precinct : ℕ) → Known h content other precinct → SamePrecinct h content other precinct
same_precinct h content other precinct known = record {
  q = known.q;
  r = known.r;
  lines = all-filter (λ place. AllByRecursion (λ band. SameBandLine h content other band place.line) (packet_bands h place)) (has_line h) (packet_places h precinct) (
    known.wide,
    all-of_flat (SameAt h content other) (level_places h precinct) (downto (h.nly + 1) 1) (downto-all (λ level. AllByRecursion (SameAt h content other) (level_places h precinct level)) (h.nly + 1) 1 (λ level low high.
        all-of_flat (SameAt h content other) (line_places h level) (range_with_len (precinct * 2 ^ (h.nly - level)) (2 ^ (h.nly - level))) (range-all (λ line. AllByRecursion (SameAt h content other) (line_places h level line)) (precinct * 2 ^ (h.nly - level)) (2 ^ (h.nly - level)) (λ line from to.
        all-of_map (SameAt h content other) (deep_place h level line) (upto 3) (
          known.deep level low (omega (arith, high)) line from to 0 (omega arith),
          (
            known.deep level low (omega (arith, high)) line from to 1 (omega arith),
            (known.deep level low (omega (arith, high)) line from to 2 (omega arith), tt),
          ),
        ))))),
  );
}

pub truncation_at : (h : Header) (content other : Content) (band line precinct : ℕ) → precinct_of h band line ≡ precinct → content.q precinct ≡ other.q precinct → content.r precinct ≡ other.r precinct
    → line_truncation h content band line ≡ line_truncation h other band line
truncation_at h content other band line precinct e q r =
    ap (λ k. truncation_of (content.q k) (content.r k) (weight_of h band)) e ∙ ap (λ n. truncation_of n (content.r precinct) (weight_of h band)) q
    ∙ ap (λ n. truncation_of (other.q precinct) n (weight_of h band)) r ∙ ap (λ k. truncation_of (other.q k) (other.r k) (weight_of h band)) (sym e)

-- What is known above a line: of its own precinct the lines before it, of the slice's precincts before all lines.
above_of : (h : Header) (content other : Content) (slice precinct band e line : ℕ) → precinct_lines h band ≡ 2 ^ e
    → precinct * 2 ^ e ≤ line → line < precinct * 2 ^ e + 2 ^ e
    → slice * h.hsl ≤ precinct
    → ((j : ℕ) → slice * h.hsl ≤ j → j ≤ precinct → (content.q j ≡ other.q j) × (content.r j ≡ other.r j))
    → ((l : ℕ) → precinct * 2 ^ e ≤ l → l < line → SameBandLine h content other band l)
    → ((j : ℕ) → slice * h.hsl ≤ j → j < precinct → (l : ℕ) → j * 2 ^ e ≤ l → l < j * 2 ^ e + 2 ^ e → SameBandLine h content other band l)
    → Above h content other band line
above_of h content other slice precinct band e line size low high from settings here before = record {
  cut = let s = settings precinct from (omega arith) in truncation_at h content other band line precinct (line_in (precinct_lines h band) precinct line e size low high) s.0 s.1;
  same = λ f. (found f).same;
  above = λ f. (found f).cut;
}
  where
    Found : Type 0
    Found = record { same : SameBandLine h content other band (line - 1); cut : line_truncation h content band (line - 1) ≡ line_truncation h other band (line - 1) }

    back : slice * h.hsl < precinct → line ≡ precinct * 2 ^ e → Found
    back later start =
        let j = precinct - 1 in
        let next : precinct ≡ j + 1 = omega (arith, later) in
        let grown : precinct * 2 ^ e ≡ (j + 1) * 2 ^ e = ap (λ k. k * 2 ^ e) next in
        let some : 0 < 2 ^ e = pow_pos e in
        let lower : j * 2 ^ e ≤ line - 1 = omega (arith, grown, start, some) in
        let upper : line - 1 < j * 2 ^ e + 2 ^ e = omega (arith, grown, start, some) in
        let s = settings j (omega (arith, later)) (omega arith) in
        record {
          same = before j (omega (arith, later)) (omega (arith, later)) (line - 1) lower upper;
          cut = truncation_at h content other band (line - 1) j (line_in (precinct_lines h band) j (line - 1) e size lower upper) s.0 s.1;
        }

    start_case : is_first_line h band line ≡ false → line ≡ precinct * 2 ^ e → (slice * h.hsl ≡ precinct) ⊎ (slice * h.hsl ≡ precinct → ⊥) → Found
    start_case f start (inl first) =
        let whole : slice * h.hsl * precinct_lines h band ≡ line = ap (λ k. k * precinct_lines h band) first ∙ ap (λ k. precinct * k) size ∙ sym start in
        absurd (true≢false (sym (first_line h band slice) ∙ ap (is_first_line h band) whole ∙ f))
    start_case f start (inr later) = back (omega (arith, from, later)) start

    found : is_first_line h band line ≡ false → Found
    found f = at (cases_eq (precinct * 2 ^ e) line)
      where
        at : (precinct * 2 ^ e ≡ line) ⊎ (precinct * 2 ^ e ≡ line → ⊥) → Found
        at (inl start) = start_case f (sym start) (cases_eq (slice * h.hsl) precinct)
        at (inr inside) =
            let s = settings precinct from (omega arith) in
            record {
              same = here (line - 1) (omega (arith, low, inside)) (omega (arith, low, inside));
              cut = truncation_at h content other band (line - 1) precinct (line_in (precinct_lines h band) precinct (line - 1) e size (omega (arith, low, inside)) (omega (arith, high))) s.0 s.1;
            }

-- A packet, if it is there
abbrev Guarded : Header → Content → (ℕ → ℕ) → PacketPlace → List ℕ → Type 0
Guarded h content mode place l = MatchBool (has_line h place) (SpellsPacket h content mode place l) (l ≡ [])

guarded_agrees : (h : Header) (content other : Content) (mode modes : ℕ → ℕ) (place : PacketPlace)
    → (has_line h place ≡ true → AllByRecursion (λ band. (mode band ≡ modes band) × Above h content other band place.line) (packet_bands h place))
    → (a b y z : List ℕ) → Guarded h content mode place a → Guarded h other modes place b → a ++ y ≡ b ++ z → (y ≡ z) × SameAt h content other place
guarded_agrees h content other mode modes place known a b y z p q e = go (has_line h place) known p q
  where
    go : (t : Bool) → (t ≡ true → AllByRecursion (λ band. (mode band ≡ modes band) × Above h content other band place.line) (packet_bands h place))
        → MatchBool t (SpellsPacket h content mode place a) (a ≡ []) → MatchBool t (SpellsPacket h other modes place b) (b ≡ [])
        → (y ≡ z) × (t ≡ true → AllByRecursion (λ band. SameBandLine h content other band place.line) (packet_bands h place))
    go true known p q = let same = packet_agrees h content other mode modes place (known refl) a b y z p q e in (same.0, λ t. same.1)
    go false known p q = (ap (λ l. l ++ y) (sym p) ∙ e ∙ ap (λ l. l ++ z) q, λ f. absurd (false≢true f))

pub has_before : (line before height : ℕ) → nat_lt line height ≡ true → before ≤ line → nat_lt before height ≡ true
has_before line before height e b = let low = ltb-true line height e in lt-ltb before height (omega (arith, low, b))

-- The packets of a precinct, where the precincts of the slice before it are known
packets_agree : (h : Header) (content other : Content) (slice precinct : ℕ) (mode modes : ℕ → ℕ) → h.nly ≤ h.nlx → slice * h.hsl ≤ precinct
    → ((j : ℕ) → slice * h.hsl ≤ j → j < precinct → Known h content other j)
    → content.q precinct ≡ other.q precinct → content.r precinct ≡ other.r precinct
    → ((band : ℕ) → band < bands_of h → mode band ≡ modes band)
    → (a b y z : List ℕ) → SpellsEach (SpellsPacket h content mode) (packets_of h precinct) a → SpellsEach (SpellsPacket h other modes) (packets_of h precinct) b → a ++ y ≡ b ++ z
    → (y ≡ z) × Known h content other precinct
packets_agree h content other slice precinct mode modes below from known q r same a b y z p0 q0 e = (deep.0, record { q = q; r = r; wide = wide.1; deep = λ level low high. all-downto (Level) (h.nly + 1) 1 deep.1 level low (omega (arith, high)) low high })
  where
    settings : (j : ℕ) → slice * h.hsl ≤ j → j ≤ precinct → (content.q j ≡ other.q j) × (content.r j ≡ other.r j)
    settings j low high = at (cases_eq j precinct)
      where
        at : (j ≡ precinct) ⊎ (j ≡ precinct → ⊥) → (content.q j ≡ other.q j) × (content.r j ≡ other.r j)
        at (inl here) = (subst (λ k. content.q k ≡ other.q k) (sym here) q, subst (λ k. content.r k ≡ other.r k) (sym here) r)
        at (inr before) = let k = known j low (omega (arith, high, before)) in (k.q, k.r)

    p1 : SpellsEach (Guarded h content mode) (packet_places h precinct) a
    p1 = each-filter (SpellsPacket h content mode) (has_line h) (packet_places h precinct) a p0

    q1 : SpellsEach (Guarded h other modes) (packet_places h precinct) b
    q1 = each-filter (SpellsPacket h other modes) (has_line h) (packet_places h precinct) b q0

    -- the bands that are not split down
    wide_above : has_line h (wide_place h precinct) ≡ true → (band : ℕ) → 0 * components_of h.shape.format ≤ band → band < 0 * components_of h.shape.format + (h.nlx - h.nly + 1) * components_of h.shape.format
        → (mode band ≡ modes band) × Above h content other band precinct
    wide_above there band low high =
        let facts = wide_band h band below (omega (arith, high)) in (
          same band facts.1,
          above_of h content other slice precinct band 0 precinct facts.0 (omega arith) (omega arith) from settings
              (λ l lower upper. absurd (omega (arith, lower, upper)))
              (λ j first before l lower upper.
              let here : j ≡ l = omega (arith, lower, upper) in
              subst (SameBandLine h content other band) here
              (all-range (λ band. SameBandLine h content other band j) (0 * components_of h.shape.format) ((h.nlx - h.nly + 1) * components_of h.shape.format)
              ((known j first before).wide (has_before precinct j (band_height_of h (0 * components_of h.shape.format)) there (omega (arith, before)))) band low high)),
        )

    wide : (p1.1 ++ y ≡ q1.1 ++ z) × SameAt h content other (wide_place h precinct)
    wide = guarded_agrees h content other mode modes (wide_place h precinct)
        (λ there. range-all (λ band. (mode band ≡ modes band) × Above h content other band precinct) (0 * components_of h.shape.format) ((h.nlx - h.nly + 1) * components_of h.shape.format) (wide_above there))
        p1.0 q1.0 (p1.1 ++ y) (q1.1 ++ z) p1.3 q1.3 (sym (append_assoc p1.0 p1.1 y) ∙ ap (λ l. l ++ y) (sym p1.2) ∙ e ∙ ap (λ l. l ++ z) q1.2 ∙ append_assoc q1.0 q1.1 z)

    -- the levels that are split both ways
    Line : ℕ → ℕ → Type 0
    Line level line = (side : ℕ) → side < 3 → SameAt h content other (deep_place h level line side)

    Level : ℕ → Type 0
    Level level = 1 ≤ level → level ≤ h.nly → (line : ℕ) → precinct * 2 ^ (h.nly - level) ≤ line → line < precinct * 2 ^ (h.nly - level) + 2 ^ (h.nly - level) → Line level line

    side_above : (level : ℕ) → 1 ≤ level → level ≤ h.nly → (line : ℕ) → precinct * 2 ^ (h.nly - level) ≤ line → line < precinct * 2 ^ (h.nly - level) + 2 ^ (h.nly - level)
        → ((l : ℕ) → precinct * 2 ^ (h.nly - level) ≤ l → l < line → Line level l) → (side : ℕ) → side < 3
        → has_line h (deep_place h level line side) ≡ true → (band : ℕ)
        → (h.nlx - h.nly + 1 + 3 * (h.nly - level) + side) * components_of h.shape.format ≤ band
        → band < (h.nlx - h.nly + 1 + 3 * (h.nly - level) + side) * components_of h.shape.format + 1 * components_of h.shape.format
        → (mode band ≡ modes band) × Above h content other band line
    side_above level low high line first last lines side inside there band lower upper =
        let start = (h.nlx - h.nly + 1 + 3 * (h.nly - level) + side) * components_of h.shape.format in
        let facts = deep_band h level side band below low high inside lower upper in (
          same band facts.1,
          above_of h content other slice precinct band (h.nly - level) line facts.0 first last from settings
              (λ l from to. all-range (λ band. SameBandLine h content other band l) start (1 * components_of h.shape.format)
              (lines l from to side inside (has_before line l (band_height_of h start) there (omega (arith, to)))) band lower upper)
              (λ j first_j before l from to. all-range (λ band. SameBandLine h content other band l) start (1 * components_of h.shape.format)
              ((known j first_j before).deep level low high l from to side inside (has_before line l (band_height_of h start) there (earlier j (2 ^ (h.nly - level)) l line before to first))) band lower upper),
        )
      where
        earlier : (j n l line : ℕ) → j < precinct → l < j * n + n → precinct * n ≤ line → l ≤ line
        earlier j n l line before to first = grind (arith, before, to, first)

    line_step : (level : ℕ) → 1 ≤ level → level ≤ h.nly → (line : ℕ) → precinct * 2 ^ (h.nly - level) ≤ line → line < precinct * 2 ^ (h.nly - level) + 2 ^ (h.nly - level)
        → ((l : ℕ) → precinct * 2 ^ (h.nly - level) ≤ l → l < line → Line level l)
        → (a b y z : List ℕ) → SpellsEach (Guarded h content mode) (line_places h level line) a → SpellsEach (Guarded h other modes) (line_places h level line) b → a ++ y ≡ b ++ z → (y ≡ z) × Line level line
    line_step level low high line first last lines a b y z p q e =
        let each = each-agree (λ side. Guarded h content mode (deep_place h level line side)) (λ side. Guarded h other modes (deep_place h level line side)) (λ side. SameAt h content other (deep_place h level line side)) (upto 3)
        (range-all _ 0 3 (λ side _ inside. guarded_agrees h content other mode modes (deep_place h level line side)
        (λ there. range-all (λ band. (mode band ≡ modes band) × Above h content other band line) ((h.nlx - h.nly + 1 + 3 * (h.nly - level) + side) * components_of h.shape.format) (1 * components_of h.shape.format)
        (side_above level low high line first last lines side inside there))))
        a b y z (each-of_map (Guarded h content mode) (deep_place h level line) (upto 3) a p) (each-of_map (Guarded h other modes) (deep_place h level line) (upto 3) b q) e in
        (each.0, λ side inside. all-range (λ side. SameAt h content other (deep_place h level line side)) 0 3 each.1 side (omega arith) inside)

    level_step : (level : ℕ) → 1 ≤ level → level < h.nly + 1 → (a b y z : List ℕ) → SpellsEach (Guarded h content mode) (level_places h precinct level) a → SpellsEach (Guarded h other modes) (level_places h precinct level) b
        → a ++ y ≡ b ++ z → (y ≡ z) × Level level
    level_step level low high a b y z p q e =
        let walk = each-walk (λ line. SpellsEach (Guarded h content mode) (line_places h level line)) (λ line. SpellsEach (Guarded h other modes) (line_places h level line)) (Line level)
        (precinct * 2 ^ (h.nly - level)) (precinct * 2 ^ (h.nly - level)) (2 ^ (h.nly - level)) (line_step level low (omega (arith, high))) (λ j from to. absurd (omega (arith, from, to))) a b y z
        (each-of_flat (Guarded h content mode) (line_places h level) (range_with_len (precinct * 2 ^ (h.nly - level)) (2 ^ (h.nly - level))) a p)
        (each-of_flat (Guarded h other modes) (line_places h level) (range_with_len (precinct * 2 ^ (h.nly - level)) (2 ^ (h.nly - level))) b q) e in
        (walk.0, λ _ _. walk.1)

    deep : (y ≡ z) × AllByRecursion Level (downto (h.nly + 1) 1)
    deep = each-agree (λ level. SpellsEach (Guarded h content mode) (level_places h precinct level)) (λ level. SpellsEach (Guarded h other modes) (level_places h precinct level)) Level (downto (h.nly + 1) 1)
        (downto-all _ (h.nly + 1) 1 level_step) p1.1 q1.1 y z
        (each-of_flat (Guarded h content mode) (level_places h precinct) (downto (h.nly + 1) 1) p1.1 p1.4)
        (each-of_flat (Guarded h other modes) (level_places h precinct) (downto (h.nly + 1) 1) q1.1 q1.4) wide.0

-- One precinct

pub mode_widths : (mode modes : ℕ → ℕ) (bands : List ℕ) → map (λ (f : ℕ × ℕ). f.0) (map (λ band. (2, mode band)) bands) ≡ map (λ (f : ℕ × ℕ). f.0) (map (λ band. (2, modes band)) bands)
mode_widths mode modes [] = refl
mode_widths mode modes (x ∷ xs) = ap (λ l. 2 ∷ l) (mode_widths mode modes xs)

pub mode_values : (mode modes : ℕ → ℕ) (bands : List ℕ) → map (λ (f : ℕ × ℕ). f.1) (map (λ band. (2, mode band)) bands) ≡ map (λ (f : ℕ × ℕ). f.1) (map (λ band. (2, modes band)) bands)
    → AllByRecursion (λ band. mode band ≡ modes band) bands
mode_values mode modes [] e = tt
mode_values mode modes (x ∷ xs) e =
    let parts = same_head (mode x) (modes x) (map (λ (f : ℕ × ℕ). f.1) (map (λ band. (2, mode band)) xs)) (map (λ (f : ℕ × ℕ). f.1) (map (λ band. (2, modes band)) xs)) e in
    (parts.0, mode_values mode modes xs parts.1)

precinct_agrees : (h : Header) (content other : Content) (slice precinct : ℕ) → h.nly ≤ h.nlx → slice * h.hsl ≤ precinct
    → ((j : ℕ) → slice * h.hsl ≤ j → j < precinct → Known h content other j)
    → (a b y z : List ℕ) → IsPrecinct h content precinct a → IsPrecinct h other precinct b → a ++ y ≡ b ++ z
    → (y ≡ z) × Known h content other precinct
precinct_agrees h content other slice precinct below from known a b y z p q e = (body.1, packets.1)
  where
    values : (mode : ℕ → ℕ) → List ℕ
    values mode = map (λ (f : ℕ × ℕ). f.1) (map (λ band. (2, mode band)) (upto (bands_of h)))

    head : (length p.body ∷ content.q precinct ∷ content.r precinct ∷ values p.mode ≡ length q.body ∷ other.q precinct ∷ other.r precinct ∷ values q.mode) × (p.body ++ y ≡ q.body ++ z)
    head = padded_agrees p.head q.head (precinct_fields h content precinct (length p.body) p.mode) (precinct_fields h other precinct (length q.body) q.mode) (p.body ++ y) (q.body ++ z)
        (ap (λ l. 24 ∷ 8 ∷ 8 ∷ l) (mode_widths p.mode q.mode (upto (bands_of h)))) p.room q.room p.headed q.headed
        (sym (append_assoc p.head p.body y) ∙ ap (λ l. l ++ y) (sym p.joined) ∙ e ∙ ap (λ l. l ++ z) q.joined ∙ append_assoc q.head q.body z)

    size : length p.body ≡ length q.body
    size = cc head.0

    same_q : content.q precinct ≡ other.q precinct
    same_q = cc head.0

    same_r : content.r precinct ≡ other.r precinct
    same_r = cc head.0

    same_values : values p.mode ≡ values q.mode
    same_values = cc head.0

    modes : (band : ℕ) → band < bands_of h → p.mode band ≡ q.mode band
    modes band inside = all-range (λ band. p.mode band ≡ q.mode band) 0 (bands_of h) (mode_values p.mode q.mode (upto (bands_of h)) same_values) band (omega arith) (omega (arith, inside))

    body : (p.body ≡ q.body) × (y ≡ z)
    body = append_cut p.body q.body y z size head.1

    joined : p.filled.0 ++ p.filled.1 ≡ q.filled.0 ++ q.filled.1
    joined = sym p.filled.2 ∙ body.0 ∙ q.filled.2

    packets : (p.filled.1 ≡ q.filled.1) × Known h content other precinct
    packets = packets_agree h content other slice precinct p.mode q.mode below from known same_q same_r modes p.filled.0 q.filled.0 p.filled.1 q.filled.1 p.filled.3 q.filled.3 joined

-- One slice

pub one_slice : OneSlice
one_slice h content other slice a b y z below p q e =
    let first = slice * h.hsl in
    let count = min ((slice + 1) * h.hsl) (precinct_count h) - slice * h.hsl in
    let heads = append_cut (slice_head slice) (slice_head slice) (p.body ++ y) (q.body ++ z) refl
    (sym (append_assoc (slice_head slice) p.body y) ∙ ap (λ l. l ++ y) (sym p.joined) ∙ e ∙ ap (λ l. l ++ z) q.joined ∙ append_assoc (slice_head slice) q.body z) in
    let walk = each-walk (IsPrecinct h content) (IsPrecinct h other) (Known h content other) first first count
    (λ precinct low high known. precinct_agrees h content other slice precinct below low known)
    (λ j from to. absurd (omega (arith, from, to))) p.body q.body y z p.spelled q.spelled heads.1 in
    (walk.0, range-all (SamePrecinct h content other) first count (λ precinct low high. same_precinct h content other precinct (walk.1 precinct low high)))
