-- The packets of a precinct in their order: the lines above each one's were read before it.
use Rattle.std.proofs.Common.{◌≡◌, ℕ, zero, suc, ◌+◌, ◌-◌, ◌*◌, ◌/◌, ◌^◌, ◌<◌, ◌≤◌, List, [], ◌∷◌, ◌++◌, refl, sym, ap, subst, ◌∙◌, arith, inl, inr}
use Rattle.std.specs.Prelude.{⊤, Bool, true, false, if◌then◌else◌}
use Rattle.std.specs.List.{AllByRecursion, flat_map, filter, range_with_len}
use Rattle.std.proofs.Math.Nat.{mul-le-mul_right, div-mul-le_self, div-add-mod, mod-lt, mul_comm}
use Rattle.std.proofs.lemmas.Bool.{cases_eq, cases_lt, false≢true}
use Rattle.std.proofs.lemmas.Nat.{pow_pos}
use Rattle.xs_lists.specs.Spelling.{upto, downto}
use Rattle.xs_lists.proofs.Each.{all-range}
use Rattle.xs_lists.proofs.Cut.{all-each, all-downto, all-map}
use Rattle.xs_lists.proofs.Walk.{all-filter, downto-all}
use Rattle.xs_params.specs.declared.header.Header.{Header}
use Rattle.xs_layout.specs.Geometry.{groups_of, components_of, PacketPlace}
use Rattle.xs_params.specs.Geometry.{band_width_of, band_height_of, bands_of, has_line, packet_places, packets_of, precinct_lines}
use Rattle.xs_grammar.specs.Precinct.{Content, precinct_of, is_first_line}
use Rattle.xs_grammar.proofs.Bands.{wide_band, deep_band}
use Rattle.xs_grammar.proofs.Local.{above_in}
use Rattle.xs_grammar.proofs.OneSlice.{line_in, has_before, wide_place, deep_place, line_places, level_places}
use Rattle.xs_reading.proofs.Places.{IsBandOf, all-places}
use Rattle.xs_reading.proofs.Contents.{not_zero}

-- the contents have the same counts of a line
abbrev pub SameCountsAt : Header → Content → Content → ℕ → ℕ → Type 0
SameCountsAt h content read band line = (group : ℕ) → group < groups_of (band_width_of h band) → content.count band line group ≡ read.count band line group

abbrev pub Grows : Header → Content → Content → Content → Type 0
Grows h content read more = (band line : ℕ) → SameCountsAt h content read band line → SameCountsAt h content more band line

-- the lines of a packet were read, and those above them
abbrev pub HasPacket : Header → Content → Content → PacketPlace → Type 0
HasPacket h content read place = (band : ℕ) → IsBandOf h place band → SameCountsAt h content read band place.line

abbrev pub HasAbove : Header → Content → Content → PacketPlace → Type 0
HasAbove h content read place = (band : ℕ) → IsBandOf h place band → is_first_line h band place.line ≡ false → SameCountsAt h content read band (place.line - 1)

-- each packet can be read after those before it
abbrev pub AreReady : Header → Content → Content → List PacketPlace → Type 0
AreReady h content read [] = ⊤
AreReady h content read (place ∷ places) = HasAbove h content read place × ((more : Content) → Grows h content read more → HasPacket h content more place → AreReady h content more places)

-- the same, where some of them are not there
abbrev Given : Header → PacketPlace → Type 0 → Type 0
Given h place P = has_line h place ≡ true → P

abbrev MayBeReady : Header → Content → Content → List PacketPlace → Type 0
MayBeReady h content read [] = ⊤
MayBeReady h content read (place ∷ places) = Given h place (HasAbove h content read place) × ((more : Content) → Grows h content read more → Given h place (HasPacket h content more place) → MayBeReady h content more places)

ready-filter : (h : Header) (content read : Content) (places : List PacketPlace) → MayBeReady h content read places → AreReady h content read (filter (has_line h) places)
ready-filter h content read [] m = tt
ready-filter h content read (place ∷ places) m = go (has_line h place) refl (λ more p. ready-filter h content more places p)
  where
    go : (t : Bool) → has_line h place ≡ t → ((more : Content) → MayBeReady h content more places → AreReady h content more (filter (has_line h) places))
        → AreReady h content read (if◌then◌else◌ {A = List PacketPlace} t (place ∷ filter (has_line h) places) (filter (has_line h) places))
    go true e rest = (m.0 e, λ more g has. rest more (m.1 more g (λ _. has)))
    go false e rest = rest read (m.1 read (λ band line s. s) (λ f. absurd (false≢true (sym e ∙ f))))

abbrev AllGiven : Header → Content → Content → List PacketPlace → Type 0
AllGiven h content read places = AllByRecursion (λ place. Given h place (HasPacket h content read place)) places

given-grows : (h : Header) (content read more : Content) (places : List PacketPlace) → Grows h content read more → AllGiven h content read places → AllGiven h content more places
given-grows h content read more places g all = all-each (λ place. Given h place (HasPacket h content read place)) (λ place. Given h place (HasPacket h content more place)) places (λ place has there band of. g band place.line (has there band of)) all

ready-append : (h : Header) (content read : Content) (xs ys : List PacketPlace) → MayBeReady h content read xs → ((more : Content) → Grows h content read more → AllGiven h content more xs → MayBeReady h content more ys) → MayBeReady h content read (xs ++ ys)
ready-append h content read [] ys a b = b read (λ band line s. s) tt
ready-append h content read (x ∷ xs) ys a b = (
  a.0,
  λ more g has. ready-append h content more xs ys (a.1 more g has) (λ last grown all. b last (λ band line s. grown band line (g band line s)) ((λ there band of. grown band x.line (has there band of)), all)),
)

-- what was read before the precinct
abbrev pub HasBefore : Header → Content → Content → ℕ → Type 0
HasBefore h content read precinct = (earlier : ℕ) → earlier / h.hsl ≡ precinct / h.hsl → earlier < precinct → AllByRecursion (HasPacket h content read) (packets_of h earlier)

before-grows : (h : Header) (content read more : Content) (precinct : ℕ) → Grows h content read more → HasBefore h content read precinct → HasBefore h content more precinct
before-grows h content read more precinct g before = λ earlier e less. all-each (HasPacket h content read) (HasPacket h content more) (packets_of h earlier) (λ place has band of. g band place.line (has band of)) (before earlier e less)

ready-flat : (h : Header) (content read : Content) (precinct : ℕ) (f : ℕ → List PacketPlace) (xs : List ℕ) → AllByRecursion (λ x. (more : Content) → HasBefore h content more precinct → MayBeReady h content more (f x)) xs → HasBefore h content read precinct
    → MayBeReady h content read (flat_map f xs)
ready-flat h content read precinct f [] all before = tt
ready-flat h content read precinct f (x ∷ xs) all before = ready-append h content read (f x) (flat_map f xs) (all.0 read before)
    (λ more g given. ready-flat h content more precinct f xs all.1 (before-grows h content read more precinct g before))

ready-range : (h : Header) (content read : Content) (precinct : ℕ) (f : ℕ → List PacketPlace) (start first n : ℕ)
    → ((i : ℕ) → first ≤ i → i < first + n → (more : Content) → HasBefore h content more precinct → ((j : ℕ) → start ≤ j → j < i → AllGiven h content more (f j)) → MayBeReady h content more (f i))
    → HasBefore h content read precinct → ((j : ℕ) → start ≤ j → j < first → AllGiven h content read (f j)) → MayBeReady h content read (flat_map f (range_with_len first n))
ready-range h content read precinct f start first zero step before known = tt
ready-range h content read precinct f start first (suc n) step before known =
    ready-append h content read (f first) (flat_map f (range_with_len (first + 1) n)) (step first (omega arith) (omega arith) read before known)
    (λ more g given. ready-range h content more precinct f start (first + 1) n (λ i low high. step i (omega (arith, low)) (omega (arith, high)))
    (before-grows h content read more precinct g before)
    (λ j low high. elim (cases_eq first j) [ inl e ↦ subst (λ j. AllGiven h content more (f j)) e given | inr d ↦ given-grows h content read more (f j) g (known j low (omega (arith, high, d))) ]))

pub product : (a b : ℕ) → 1 ≤ a → 0 < b → 0 < a * b
product a b x y = grind (arith, x, y)

-- the line above one that is not the first of its slice: it is of an earlier precinct, or of this one
above_case : (h : Header) (content read : Content) (precinct band line e : ℕ) → 1 ≤ h.hsl → precinct_lines h band ≡ 2 ^ e → precinct * 2 ^ e ≤ line → line < precinct * 2 ^ e + 2 ^ e
    → ((earlier : ℕ) → earlier / h.hsl ≡ precinct / h.hsl → earlier < precinct → earlier * 2 ^ e ≤ line - 1 → line - 1 < earlier * 2 ^ e + 2 ^ e → SameCountsAt h content read band (line - 1))
    → (precinct * 2 ^ e ≤ line - 1 → line - 1 < line → SameCountsAt h content read band (line - 1)) → is_first_line h band line ≡ false → SameCountsAt h content read band (line - 1)
above_case h content read precinct band line e some size low high before inside f =
    elim (cases_lt (precinct_of h band (line - 1)) precinct) [
      | inl earlier ↦ before (precinct_of h band (line - 1)) (above_in line (precinct_lines h band) h.hsl positive f ∙ ap (λ p. p / h.hsl) here) earlier
          (subst (λ n. (line - 1) / n * 2 ^ e ≤ line - 1) (sym size) (div-mul-le_self (line - 1) (2 ^ e)))
          (subst (λ n. line - 1 < (line - 1) / n * 2 ^ e + 2 ^ e) (sym size) (omega (arith, div-add-mod (line - 1) (2 ^ e), mod-lt (line - 1) (pow_pos e), mul_comm (2 ^ e) ((line - 1) / 2 ^ e))))
      | inr own ↦ inside (lower own) (less own)
    ]
  where
    here : line / precinct_lines h band ≡ precinct
    here = line_in (precinct_lines h band) precinct line e size low high

    positive : 0 < h.hsl * precinct_lines h band
    positive = let lines : 0 < precinct_lines h band = pow_pos _ in product h.hsl (precinct_lines h band) some lines

    lower : precinct ≤ (line - 1) / precinct_lines h band → precinct * 2 ^ e ≤ line - 1
    lower own = let high : precinct ≤ (line - 1) / 2 ^ e = subst (λ n. precinct ≤ (line - 1) / n) size own in omega (arith, mul-le-mul_right (2 ^ e) high, div-mul-le_self (line - 1) (2 ^ e))

    less : precinct ≤ (line - 1) / precinct_lines h band → line - 1 < line
    less own = elim (cases_eq line 0) [ inl z ↦ absurd (nope z) | inr d ↦ omega (arith, d) ]
      where
        nope : line ≡ 0 → ⊥
        nope z = not_zero h band line f z

-- one of the packets of a precinct

filter-all : (P : PacketPlace → Type 0) (test : PacketPlace → Bool) (xs : List PacketPlace) → AllByRecursion P (filter test xs) → AllByRecursion (λ x. test x ≡ true → P x) xs
filter-all P test [] h = tt
filter-all P test (x ∷ xs) h = go (test x) refl h (λ rest. filter-all P test xs rest)
  where
    go : (t : Bool) → test x ≡ t → AllByRecursion P (if◌then◌else◌ {A = List PacketPlace} t (x ∷ filter test xs) (filter test xs)) → (AllByRecursion P (filter test xs) → AllByRecursion (λ x. test x ≡ true → P x) xs)
        → (test x ≡ true → P x) × AllByRecursion (λ x. test x ≡ true → P x) xs
    go true e h rest = ((λ _. h.0), rest h.1)
    go false e h rest = ((λ t. absurd (false≢true (sym e ∙ t))), rest h)

append-all : (P : PacketPlace → Type 0) (xs ys : List PacketPlace) → AllByRecursion P (xs ++ ys) → AllByRecursion P xs × AllByRecursion P ys
append-all P [] ys h = (tt, h)
append-all P (x ∷ xs) ys h = let rest = append-all P xs ys h.1 in ((h.0, rest.0), rest.1)

flat-all : (P : PacketPlace → Type 0) (f : ℕ → List PacketPlace) (xs : List ℕ) → AllByRecursion P (flat_map f xs) → AllByRecursion (λ x. AllByRecursion P (f x)) xs
flat-all P f [] h = tt
flat-all P f (x ∷ xs) h = let both = append-all P (f x) (flat_map f xs) h in (both.0, flat-all P f xs both.1)

wide_of : (P : PacketPlace → Type 0) (h : Header) (precinct : ℕ) → AllByRecursion P (packets_of h precinct) → has_line h (wide_place h precinct) ≡ true → P (wide_place h precinct)
wide_of P h precinct all there = (filter-all P (has_line h) (packet_places h precinct) all).0 there

deep_of : (P : PacketPlace → Type 0) (h : Header) (precinct level line side : ℕ) → AllByRecursion P (packets_of h precinct) → 1 ≤ level → level ≤ h.nly → precinct * 2 ^ (h.nly - level) ≤ line → line < precinct * 2 ^ (h.nly - level) + 2 ^ (h.nly - level) → side < 3
    → has_line h (deep_place h level line side) ≡ true → P (deep_place h level line side)
deep_of P h precinct level line side all low high from to inside there =
    let Q : PacketPlace → Type 0 = λ place. has_line h place ≡ true → P place in
    let levels = flat-all Q (level_places h precinct) (downto (h.nly + 1) 1) (filter-all P (has_line h) (packet_places h precinct) all).1 in
    let lines = flat-all Q (line_places h level) (range_with_len (precinct * 2 ^ (h.nly - level)) (2 ^ (h.nly - level))) (all-downto (λ level. AllByRecursion Q (level_places h precinct level)) (h.nly + 1) 1 levels level low (omega (arith, high))) in
    let sides = all-range (λ line. AllByRecursion Q (line_places h level line)) (precinct * 2 ^ (h.nly - level)) (2 ^ (h.nly - level)) lines line from to in
    all-range (λ side. Q (deep_place h level line side)) 0 3 (all-map Q (deep_place h level line) (upto 3) sides) side (omega arith) inside there

-- Packets of a precinct

pub packets_ready : (h : Header) (content read : Content) (precinct : ℕ) → 1 ≤ h.hsl → h.nly ≤ h.nlx → HasBefore h content read precinct → AreReady h content read (packets_of h precinct)
packets_ready h content read precinct some below before = ready-filter h content read (packet_places h precinct) (
  (λ there band of f. above_case h content read precinct band precinct 0 some (wide_band h band below (omega (arith, of.high))).0 (omega arith) (omega arith)
      (λ earlier e less low high. let here : earlier ≡ precinct - 1 = omega (arith, low, high) in
      subst (SameCountsAt h content read band) here (wide_of (HasPacket h content read) h earlier (before earlier e less) (has_before precinct earlier (band_height_of h (0 * components_of h.shape.format)) there (omega (arith, less))) band (record { low = of.low; high = of.high })))
      (λ low less. absurd (omega (arith, low, less))) f),
  λ more g has. ready-flat h content more precinct (level_places h precinct) (downto (h.nly + 1) 1)
      (downto-all (λ level. (more : Content) → HasBefore h content more precinct → MayBeReady h content more (level_places h precinct level)) (h.nly + 1) 1 (λ level low high more earlier. level_ready level low (omega (arith, high)) more earlier))
      (before-grows h content read more precinct g before),
)
  where
    level_ready : (level : ℕ) → 1 ≤ level → level ≤ h.nly → (read : Content) → HasBefore h content read precinct → MayBeReady h content read (level_places h precinct level)
    level_ready level low high read before =
        ready-range h content read precinct (line_places h level) (precinct * 2 ^ (h.nly - level)) (precinct * 2 ^ (h.nly - level)) (2 ^ (h.nly - level)) step before (λ j from to. absurd (omega (arith, from, to)))
      where
        need : (line side : ℕ) → precinct * 2 ^ (h.nly - level) ≤ line → line < precinct * 2 ^ (h.nly - level) + 2 ^ (h.nly - level) → side < 3 → (more : Content) → HasBefore h content more precinct
            → ((j : ℕ) → precinct * 2 ^ (h.nly - level) ≤ j → j < line → Given h (deep_place h level j side) (HasPacket h content more (deep_place h level j side)))
            → Given h (deep_place h level line side) (HasAbove h content more (deep_place h level line side))
        need line side from to inside more before known there band of f =
            above_case h content more precinct band line (h.nly - level) some (deep_band h level side band below low high inside of.low of.high).0 from to
            (λ earlier e less lower upper. deep_of (HasPacket h content more) h earlier level (line - 1) side (before earlier e less) low high lower upper inside (has_before line (line - 1) (band_height_of h ((h.nlx - h.nly + 1 + 3 * (h.nly - level) + side) * components_of h.shape.format)) there (omega arith)) band (record { low = of.low; high = of.high }))
            (λ lower less. known (line - 1) lower less (has_before line (line - 1) (band_height_of h ((h.nlx - h.nly + 1 + 3 * (h.nly - level) + side) * components_of h.shape.format)) there (omega arith)) band (record { low = of.low; high = of.high })) f

        step : (line : ℕ) → precinct * 2 ^ (h.nly - level) ≤ line → line < precinct * 2 ^ (h.nly - level) + 2 ^ (h.nly - level) → (more : Content) → HasBefore h content more precinct
            → ((j : ℕ) → precinct * 2 ^ (h.nly - level) ≤ j → j < line → AllGiven h content more (line_places h level j)) → MayBeReady h content more (line_places h level line)
        step line from to a before known = (
          need line 0 from to (omega arith) a before (λ j low less. (known j low less).0),
          λ b g _. (
            need line 1 from to (omega arith) b (before-grows h content a b precinct g before) (λ j low less there band of. g band j ((known j low less).1.0 there band of)),
            λ c k _. (
              need line 2 from to (omega arith) c (before-grows h content b c precinct k (before-grows h content a b precinct g before)) (λ j low less there band of. k band j (g band j ((known j low less).1.1.0 there band of))),
              λ d l _. tt,
            ),
          ),
        )

pub packets_bands : (h : Header) (precinct : ℕ) → h.nly ≤ h.nlx → AllByRecursion (λ place. (band : ℕ) → IsBandOf h place band → band < bands_of h) (packets_of h precinct)
packets_bands h precinct below = all-filter (λ place. (band : ℕ) → IsBandOf h place band → band < bands_of h) (has_line h) (packet_places h precinct)
    (all-each (λ place. (band : ℕ) → IsBandOf h place band → band < bands_of h) (λ place. has_line h place ≡ true → (band : ℕ) → IsBandOf h place band → band < bands_of h) (packet_places h precinct) (λ place own _. own)
    (all-places (λ place. (band : ℕ) → IsBandOf h place band → band < bands_of h) h precinct
    (λ band of. (wide_band h band below (omega (arith, of.high))).1)
    (λ level line side low high from to inside band of. (deep_band h level side band below low (omega (arith, high)) inside of.low of.high).1)))
