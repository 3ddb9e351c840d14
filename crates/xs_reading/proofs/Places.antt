-- The packets of a precinct: the lines that they have are its own, and a band has them in their order.
use Rattle.std.proofs.Common.{◌≡◌, ℕ, zero, suc, ◌+◌, ◌-◌, ◌*◌, ◌^◌, ◌<◌, ◌≤◌, List, [], ◌∷◌, ◌++◌, map, refl, sym, ap, subst, arith, inl, inr}
use Rattle.std.specs.Prelude.{⊤, Bool, true, false, ◌⊎◌, if◌then◌else◌}
use Rattle.std.specs.List.{AllByRecursion, flat_map, filter, range_with_len}
use Rattle.xs_lists.specs.Spelling.{upto, downto}
use Rattle.xs_lists.proofs.Each.{range-all}
use Rattle.xs_lists.proofs.Cut.{all-each}
use Rattle.xs_lists.proofs.Walk.{all-filter, all-append, all-of_map, all-of_flat, downto-all}
use Rattle.xs_layout.specs.Geometry.{components_of, PacketPlace}
use Rattle.xs_params.specs.declared.header.Header.{Header}
use Rattle.xs_params.specs.Geometry.{packet_bands, packet_places, packets_of, has_line, precinct_lines}
use Rattle.xs_grammar.specs.Precinct.{precinct_of}
use Rattle.xs_grammar.proofs.Bands.{wide_band, deep_band}
use Rattle.xs_grammar.proofs.OneSlice.{line_in, wide_place, deep_place, line_places, level_places}

-- a band of a packet
pub record IsBandOf (h : Header) (place : PacketPlace) (band : ℕ) : Type 0 where
  pub low : place.first_type * components_of h.shape.format ≤ band
  pub high : band < place.first_type * components_of h.shape.format + place.types * components_of h.shape.format

-- a packet stands before another one: they have no band in common, or its line is before
abbrev pub Before : PacketPlace → PacketPlace → Type 0
Before p q = (p.first_type + p.types ≤ q.first_type) ⊎ (p.line < q.line)

pub before_line : (h : Header) (p q : PacketPlace) (band : ℕ) → Before p q → IsBandOf h p band → IsBandOf h q band → p.line < q.line
before_line h p q band (inr less) a b = less
before_line h p q band (inl apart) a b = absurd (none p.first_type p.types q.first_type (components_of h.shape.format) apart a.high b.low)
  where
    none : (f n g c : ℕ) → f + n ≤ g → band < f * c + n * c → g * c ≤ band → ⊥
    none f n g c e low high = grind (arith, e, low, high)

-- packets in order
abbrev pub AreOrdered : List PacketPlace → Type 0
AreOrdered [] = ⊤
AreOrdered (place ∷ places) = AllByRecursion (Before place) places × AreOrdered places

abbrev AllBefore : List PacketPlace → List PacketPlace → Type 0
AllBefore xs ys = AllByRecursion (λ p. AllByRecursion (Before p) ys) xs

ordered-append : (xs ys : List PacketPlace) → AreOrdered xs → AreOrdered ys → AllBefore xs ys → AreOrdered (xs ++ ys)
ordered-append [] ys a b c = b
ordered-append (x ∷ xs) ys a b c = (all-append (Before x) xs ys a.0 c.0, ordered-append xs ys a.1 b c.1)

ordered-filter : (test : PacketPlace → Bool) (xs : List PacketPlace) → AreOrdered xs → AreOrdered (filter test xs)
ordered-filter test [] h = tt
ordered-filter test (x ∷ xs) h = go (test x) (ordered-filter test xs h.1)
  where
    go : (t : Bool) → AreOrdered (filter test xs) → AreOrdered (if◌then◌else◌ {A = List PacketPlace} t (x ∷ filter test xs) (filter test xs))
    go true rest = (all-filter (Before x) test xs (all-each (Before x) (λ p. test p ≡ true → Before x p) xs (λ p b _. b) h.0), rest)
    go false rest = rest

-- lists of packets, of which each stands before the later ones
ordered-flat : (f : ℕ → List PacketPlace) (first n : ℕ) → ((i : ℕ) → first ≤ i → i < first + n → AreOrdered (f i)) → ((i j : ℕ) → first ≤ i → i < j → j < first + n → AllBefore (f i) (f j))
    → AreOrdered (flat_map f (range_with_len first n))
ordered-flat f first zero one two = tt
ordered-flat f first (suc n) one two =
    ordered-append (f first) (flat_map f (range_with_len (first + 1) n)) (one first (omega arith) (omega arith))
    (ordered-flat f (first + 1) n (λ i low high. one i (omega (arith, low)) (omega (arith, high))) (λ i j low less high. two i j (omega (arith, low)) less (omega (arith, high))))
    (later (f first) (first + 1) n (λ j low high. two first j (omega arith) (omega (arith, low)) (omega (arith, high))))
  where
    later : (xs : List PacketPlace) (from n : ℕ) → ((j : ℕ) → from ≤ j → j < from + n → AllBefore xs (f j)) → AllBefore xs (flat_map f (range_with_len from n))
    later [] from n h = tt
    later (x ∷ xs) from n h = (
      all-of_flat (Before x) f (range_with_len from n) (range-all (λ j. AllByRecursion (Before x) (f j)) from n (λ j low high. (h j low high).0)),
      later xs from n (λ j low high. (h j low high).1),
    )

flat-of_map : (f : ℕ → List PacketPlace) (g : ℕ → ℕ) (xs : List ℕ) → flat_map f (map g xs) ≡ flat_map (λ x. f (g x)) xs
flat-of_map f g [] = refl
flat-of_map f g (x ∷ xs) = ap (λ l. f (g x) ++ l) (flat-of_map f g xs)

-- what holds of the places of a level
all-level : (P : PacketPlace → Type 0) (h : Header) (precinct level : ℕ) → ((line side : ℕ) → precinct * 2 ^ (h.nly - level) ≤ line → line < precinct * 2 ^ (h.nly - level) + 2 ^ (h.nly - level) → side < 3 → P (deep_place h level line side))
    → AllByRecursion P (level_places h precinct level)
all-level P h precinct level one =
    all-of_flat P (line_places h level) (range_with_len (precinct * 2 ^ (h.nly - level)) (2 ^ (h.nly - level)))
    (range-all (λ line. AllByRecursion P (line_places h level line)) (precinct * 2 ^ (h.nly - level)) (2 ^ (h.nly - level)) (λ line from to.
    all-of_map P (deep_place h level line) (upto 3) (range-all (λ side. P (deep_place h level line side)) 0 3 (λ side _ inside. one line side from to inside))))

-- what holds of the places of a precinct
pub all-places : (P : PacketPlace → Type 0) (h : Header) (precinct : ℕ) → P (wide_place h precinct)
    → ((level line side : ℕ) → 1 ≤ level → level < h.nly + 1 → precinct * 2 ^ (h.nly - level) ≤ line → line < precinct * 2 ^ (h.nly - level) + 2 ^ (h.nly - level) → side < 3 → P (deep_place h level line side))
    → AllByRecursion P (packet_places h precinct)
all-places P h precinct wide deep = (
  wide,
  all-of_flat P (level_places h precinct) (downto (h.nly + 1) 1) (downto-all (λ level. AllByRecursion P (level_places h precinct level)) (h.nly + 1) 1 (λ level low high.
      all-level P h precinct level (λ line side from to inside. deep level line side low high from to inside))),
)

-- Of a precinct

line_order : (h : Header) (level line : ℕ) → AreOrdered (line_places h level line)
line_order h level line =
    let base = h.nlx - h.nly + 1 + 3 * (h.nly - level) in
    let a : base + 0 + 1 ≤ base + 1 = omega arith in
    let b : base + 0 + 1 ≤ base + 2 = omega arith in
    let c : base + 1 + 1 ≤ base + 2 = omega arith in
    ((inl a, (inl b, tt)), ((inl c, tt), (tt, tt)))

level_order : (h : Header) (precinct level : ℕ) → AreOrdered (level_places h precinct level)
level_order h precinct level = ordered-flat (line_places h level) (precinct * 2 ^ (h.nly - level)) (2 ^ (h.nly - level)) (λ line low high. line_order h level line)
    (λ i j low less high. all-of_map (λ p. AllByRecursion (Before p) (line_places h level j)) (deep_place h level i) (upto 3) (range-all (λ side. AllByRecursion (Before (deep_place h level i side)) (line_places h level j)) 0 3 (λ side _ inside.
    all-of_map (Before (deep_place h level i side)) (deep_place h level j) (upto 3) (range-all (λ other. Before (deep_place h level i side) (deep_place h level j other)) 0 3 (λ other _ within. inr less)))))

pub packets_ordered : (h : Header) (precinct : ℕ) → AreOrdered (packets_of h precinct)
packets_ordered h precinct = ordered-filter (has_line h) (packet_places h precinct) (first, deep)
  where
    level : ℕ → ℕ
    level i = h.nly + 1 - (i + 1)

    first : AllByRecursion (Before (wide_place h precinct)) (flat_map (level_places h precinct) (downto (h.nly + 1) 1))
    first = all-of_flat (Before (wide_place h precinct)) (level_places h precinct) (downto (h.nly + 1) 1) (downto-all (λ level. AllByRecursion (Before (wide_place h precinct)) (level_places h precinct level)) (h.nly + 1) 1 (λ level low high.
        all-level (Before (wide_place h precinct)) h precinct level (λ line side from to inside. inl (omega arith))))

    deep : AreOrdered (flat_map (level_places h precinct) (downto (h.nly + 1) 1))
    deep = subst AreOrdered (sym (flat-of_map (level_places h precinct) (λ i. h.nly + 1 - (i + 1)) (upto (h.nly + 1 - 1))))
        (ordered-flat (λ i. level_places h precinct (h.nly + 1 - (i + 1))) 0 (h.nly + 1 - 1) (λ i low high. level_order h precinct (h.nly + 1 - (i + 1)))
        (λ i j low less high. all-level (λ p. AllByRecursion (Before p) (level_places h precinct (h.nly + 1 - (j + 1)))) h precinct (h.nly + 1 - (i + 1)) (λ line side from to inside.
        all-level (Before (deep_place h (h.nly + 1 - (i + 1)) line side)) h precinct (h.nly + 1 - (j + 1)) (λ other more _ _ within. inl (omega (arith, less, high, inside))))))

-- the lines of a packet of a precinct are the precinct's
abbrev pub IsOfPrecinct : Header → ℕ → PacketPlace → Type 0
IsOfPrecinct h precinct place = (band : ℕ) → IsBandOf h place band → precinct_of h band place.line ≡ precinct

pub packets_own : (h : Header) (precinct : ℕ) → h.nly ≤ h.nlx → AllByRecursion (IsOfPrecinct h precinct) (packets_of h precinct)
packets_own h precinct below = all-filter (IsOfPrecinct h precinct) (has_line h) (packet_places h precinct)
    (all-each (IsOfPrecinct h precinct) (λ place. has_line h place ≡ true → IsOfPrecinct h precinct place) (packet_places h precinct) (λ place own _. own)
    (all-places (IsOfPrecinct h precinct) h precinct
    (λ band of. line_in (precinct_lines h band) precinct precinct 0 (wide_band h band below (omega (arith, of.high))).0 (omega arith) (omega arith))
    (λ level line side low high from to inside band of. line_in (precinct_lines h band) precinct line (h.nly - level) (deep_band h level side band below low (omega (arith, high)) inside of.low of.high).0 from to)))

pub bands_in : (h : Header) (place : PacketPlace) (P : ℕ → Type 0) → ((band : ℕ) → IsBandOf h place band → P band) → AllByRecursion P (packet_bands h place)
bands_in h place P one = range-all P (place.first_type * components_of h.shape.format) (place.types * components_of h.shape.format) (λ band low high. one band (record { low = low; high = high }))
