-- The packets of one component have a quarter of its columns as code groups, and a few more.
use Rattle.std.proofs.Common.{◌≡◌, ℕ, zero, suc, ◌+◌, ◌-◌, ◌*◌, ◌/◌, ◌%◌, ◌^◌, ◌<◌, ◌≤◌, List, [], ◌∷◌, ◌++◌, map, length, get_or, refl, sym, ap, subst, ◌∙◌, arith}
use Rattle.std.specs.Prelude.{Bool, true, false, cond, nat_eq, if◌then◌else◌}
use Rattle.std.specs.List.{flat_map, filter, sum_by, range_with_len, AllByRecursion}
use Rattle.std.proofs.Math.Nat.{div-one}
use Rattle.std.proofs.lemmas.List.{get_or_append_left, get_or-map, length-map}
use Rattle.std.proofs.lemmas.List.FromFn.{get_or-map-range_with_len, length-map-range_with_len}
use Rattle.std.proofs.lemmas.List.Sums.{sum_by-cons, sum_by_push}
use Rattle.xs_lists.specs.Spelling.{upto, downto}
use Rattle.xs_lists.proofs.Each.{range-more}
use Rattle.xs_lists.proofs.Walk.{all-append}
use Rattle.xs_layout.specs.declared.Format.{Format}
use Rattle.xs_layout.specs.declared.Format.TheVariants.{Mono}
use Rattle.xs_layout.specs.Geometry.{ceil_div, components_of, component_width_of, low_size, high_size, side_size, BandType, ll, hl, lh, hh, band_types, type_of_band, groups_of, PacketPlace, packet_places_of}
use Rattle.xs_layout.proofs.Places.{sides_make_up}

-- Lists

pub all-flat : {A B : Type 0} (P : B → Type 0) (f : A → List B) → ((x : A) → AllByRecursion P (f x)) → (xs : List A) → AllByRecursion P (flat_map f xs)
all-flat P f h [] = tt
all-flat P f h (x ∷ xs) = all-append P (f x) (flat_map f xs) (h x) (all-flat P f h xs)

pub all-kept : {A : Type 0} (P : A → Type 0) (test : A → Bool) (xs : List A) → AllByRecursion P xs → AllByRecursion P (filter test xs)
all-kept P test [] h = tt
all-kept {A} P test (x ∷ xs) h = cases (test x) (all-kept P test xs h.1)
  where
    cases : (t : Bool) → AllByRecursion P (filter test xs) → AllByRecursion P (cond t (x ∷ filter test xs) (filter test xs))
    cases true rest = (h.0, rest)
    cases false rest = rest

pub sum_by-same : {A : Type 0} (f g : A → ℕ) → ((x : A) → f x ≡ g x) → (xs : List A) → sum_by f xs ≡ sum_by g xs
sum_by-same f g h [] = refl
sum_by-same f g h (x ∷ xs) = omega (arith, sum_by-cons f x xs, sum_by-cons g x xs, h x, sum_by-same f g h xs)

-- Band types

abbrev wide_types : ℕ → ℕ → List BandType
wide_types nlx nly = map (λ level. hl level nly) (downto (nlx + 1) (nly + 1))

abbrev deep_types : ℕ → List BandType
deep_types nly = flat_map (λ level. hl level level ∷ lh level level ∷ hh level level ∷ []) (downto (nly + 1) 1)

pub length-downto : (top bottom : ℕ) → length (downto top bottom) ≡ top - bottom
length-downto top bottom = length-map-range_with_len (λ i. top - (i + 1)) 0 (top - bottom)

pub downto_at : (top bottom j : ℕ) → j < top - bottom → get_or (downto top bottom) j 0 ≡ top - (j + 1)
downto_at top bottom j inside = get_or-map-range_with_len (λ i. top - (i + 1)) 0 (top - bottom) j j 0 inside (omega arith)

-- the types that are not split down, after LL
wide_type : (nlx nly i : ℕ) (d : BandType) → i < nlx - nly → get_or (band_types nlx nly) (suc i) d ≡ hl (nlx - i) nly
wide_type nlx nly i d inside =
    let among : i < length (downto (nlx + 1) (nly + 1)) = omega (arith, length-downto (nlx + 1) (nly + 1), inside) in
    let room : i < length (wide_types nlx nly) = omega (arith, length-map (downto (nlx + 1) (nly + 1)) (λ level. hl level nly), among) in
    let level : nlx + 1 - (i + 1) ≡ nlx - i = omega arith in
    get_or_append_left (wide_types nlx nly) (deep_types nly) d i room
    ∙ get_or-map (λ level. hl level nly) (downto (nlx + 1) (nly + 1)) i 0 d among
    ∙ ap (λ k. hl k nly) (downto_at (nlx + 1) (nly + 1) i (omega (arith, inside)) ∙ level)

-- Widths

low_first : (n : ℕ) → low_size n 0 ≡ n
low_first n = omega arith

-- no side is longer than the picture
pub low-most : (n level : ℕ) → low_size n level ≤ n
low-most n zero = omega (arith, low_first n)
low-most n (suc level) =
    let next : level + 1 ≡ suc level = omega arith in
    let half : low_size n (suc level) ≡ (low_size n level + 1) / 2 = ap (low_size n) (sym next) ∙ (sides_make_up n level).0 in
    let before : low_size n level ≤ n = low-most n level in
    halved (low_size n level) (low_size n (suc level)) half before
  where
    halved : (a b : ℕ) → b ≡ (a + 1) / 2 → a ≤ n → b ≤ n
    halved a b e p = omega (arith, e, p)

pub side-most : (n level : ℕ) (high : Bool) → side_size n level high ≤ n
side-most n level true = half (low_size n (level - 1)) (low-most n (level - 1))
  where
    half : (a : ℕ) → a ≤ n → a / 2 ≤ n
    half a p = omega (arith, p)
side-most n level false = low-most n level

-- the code groups of a band, by its type
abbrev pub type_groups : ℕ → BandType → ℕ
type_groups width type = groups_of (side_size width type.across type.high_across)

pub groups-most : (n : ℕ) → 4 * groups_of n ≤ n + 3
groups-most n = omega arith

-- the types that are not split down make up the low side of the levels that are split both ways
pub wide-sum : (width nlx nly k : ℕ) → nly ≤ nlx → k ≤ nlx - nly
    → 4 * sum_by (λ type. type_groups width (get_or (band_types nlx nly) type (ll 0 0))) (range_with_len 0 (k + 1)) ≤ low_size width (nlx - k) + 3 * (k + 1)
wide-sum width nlx nly zero below inside =
    let all : nlx - 0 ≡ nlx = omega arith in
    first (low_size width nlx) (low_size width (nlx - 0)) (ap (low_size width) (sym all))
  where
    first : (a b : ℕ) → a ≡ b → 4 * (0 + groups_of a) ≤ b + 3 * (0 + 1)
    first a b e = omega (arith, e, groups-most a)
wide-sum width nlx nly (suc k) below inside =
    let group : ℕ → ℕ = λ type. type_groups width (get_or (band_types nlx nly) type (ll 0 0)) in
    let one : suc k + 1 ≡ suc (k + 1) = omega arith in
    let two : k + 1 ≡ suc k = omega arith in
    let here : 0 + suc k ≡ suc k = omega arith in
    let more : sum_by group (range_with_len 0 (suc k + 1)) ≡ sum_by group (range_with_len 0 (k + 1)) + group (suc k) =
    ap (sum_by group) (range-more 0 (suc k) ∙ ap (λ i. range_with_len 0 (suc k) ++ (i ∷ [])) here) ∙ sum_by_push group (range_with_len 0 (suc k)) (suc k) ∙ ap (λ n. sum_by group (range_with_len 0 n) + group (suc k)) (sym two) in
    let level : nlx - suc k + 1 ≡ nlx - k = omega (arith, inside) in
    let type : group (suc k) ≡ groups_of (high_size width (nlx - k)) = ap (type_groups width) (wide_type nlx nly k (ll 0 0) (omega (arith, inside))) in
    let sides : low_size width (nlx - k) + high_size width (nlx - k) ≡ low_size width (nlx - suc k) = subst (λ l. low_size width l + high_size width l ≡ low_size width (nlx - suc k)) level (sides_make_up width (nlx - suc k)).1 in
    step (sum_by group (range_with_len 0 (suc k + 1))) (sum_by group (range_with_len 0 (k + 1))) (group (suc k)) (low_size width (nlx - k)) (high_size width (nlx - k)) (low_size width (nlx - suc k))
    more type sides (wide-sum width nlx nly k below (omega (arith, inside)))
  where
    step : (whole sum last low high next : ℕ) → whole ≡ sum + last → last ≡ groups_of high → low + high ≡ next → 4 * sum ≤ low + 3 * (k + 1) → 4 * whole ≤ next + 3 * (suc k + 1)
    step whole sum last low high next p q r s = omega (arith, p, q, r, s, groups-most high)

-- Packets of one component

-- the code groups of a band of a format, and of the bands of a packet
abbrev pub groups_with : Format → ℕ → ℕ → ℕ → ℕ → ℕ
groups_with format width nlx nly band = type_groups (component_width_of format width (band % components_of format)) (type_of_band nlx nly (components_of format) band)

abbrev pub packet_groups : Format → ℕ → ℕ → ℕ → PacketPlace → ℕ
packet_groups format width nlx nly place =
    sum_by (groups_with format width nlx nly) (range_with_len (place.first_type * components_of format) (place.types * components_of format))

mono_width : (width component : ℕ) → component_width_of Mono width component ≡ width
mono_width width component = cases (nat_eq component 0)
  where
    cases : (first : Bool) → ceil_div width (if first then 1 else 1) ≡ width
    cases true = omega arith
    cases false = omega arith

mono_groups : (width nlx nly band : ℕ) → groups_with Mono width nlx nly band ≡ type_groups width (get_or (band_types nlx nly) band (ll 0 0))
mono_groups width nlx nly band =
    ap (λ w. type_groups w (type_of_band nlx nly 1 band)) (mono_width width (band % 1))
    ∙ ap (λ type. type_groups width (get_or (band_types nlx nly) type (ll 0 0))) (div-one band)

-- the packet of the types that are not split down
first-narrow : (width nlx nly precinct columns : ℕ) → width ≤ columns → nlx ≤ 5 → nly ≤ nlx → 4 * packet_groups Mono width nlx nly (record { first_type = 0; types = nlx - nly + 1; line = precinct }) ≤ columns + 54
first-narrow width nlx nly precinct columns most few below =
    let types : (nlx - nly + 1) * 1 ≡ nlx - nly + 1 = omega arith in
    let known = wide-sum width nlx nly (nlx - nly) below (omega arith) in
    bound (packet_groups Mono width nlx nly (record { first_type = 0; types = nlx - nly + 1; line = precinct }))
    (sum_by (λ type. type_groups width (get_or (band_types nlx nly) type (ll 0 0))) (range_with_len 0 (nlx - nly + 1))) (low_size width (nlx - (nlx - nly)))
    (ap (λ n. sum_by (groups_with Mono width nlx nly) (range_with_len 0 n)) types
    ∙ sum_by-same (groups_with Mono width nlx nly) (λ type. type_groups width (get_or (band_types nlx nly) type (ll 0 0))) (mono_groups width nlx nly) (range_with_len 0 (nlx - nly + 1)))
    known (low-most width (nlx - (nlx - nly)))
  where
    bound : (whole sum low : ℕ) → whole ≡ sum → 4 * sum ≤ low + 3 * (nlx - nly + 1) → low ≤ width → 4 * whole ≤ columns + 54
    bound whole sum low p q r = omega (arith, p, q, r, most, few)

-- a packet of one type
one-narrow : (width nlx nly first line columns : ℕ) → width ≤ columns → 4 * packet_groups Mono width nlx nly (record { first_type = first; types = 1; line = line }) ≤ columns + 54
one-narrow width nlx nly first line columns most =
    let type = get_or (band_types nlx nly) (first * 1) (ll 0 0) in
    bound (groups_with Mono width nlx nly (first * 1)) (side_size width type.across type.high_across) (mono_groups width nlx nly (first * 1)) (side-most width type.across type.high_across)
  where
    bound : (groups side : ℕ) → groups ≡ groups_of side → side ≤ width → 4 * (0 + groups) ≤ columns + 54
    bound groups side p q = omega (arith, p, q, most, groups-most side)

pub all-narrow : (width nlx nly precinct columns : ℕ) → width ≤ columns → nlx ≤ 5 → nly ≤ nlx → AllByRecursion (λ place. 4 * packet_groups Mono width nlx nly place ≤ columns + 54) (packet_places_of nlx nly precinct)
all-narrow width nlx nly precinct columns most few below =
    (first-narrow width nlx nly precinct columns most few below, all-flat Narrow (λ level. flat_map (three level) (range_with_len (precinct * 2 ^ (nly - level)) (2 ^ (nly - level)))) level (downto (nly + 1) 1))
  where
    Narrow : PacketPlace → Type 0
    Narrow place = 4 * packet_groups Mono width nlx nly place ≤ columns + 54

    place_at : ℕ → ℕ → ℕ → PacketPlace
    place_at level line side = record { first_type = nlx - nly + 1 + 3 * (nly - level) + side; types = 1; line = line }

    three : ℕ → ℕ → List PacketPlace
    three level line = map (place_at level line) (upto 3)

    narrow : (level line side : ℕ) → 4 * packet_groups Mono width nlx nly (place_at level line side) ≤ columns + 54
    narrow level line side = one-narrow width nlx nly (nlx - nly + 1 + 3 * (nly - level) + side) line columns most

    level : (level : ℕ) → AllByRecursion Narrow (flat_map (three level) (range_with_len (precinct * 2 ^ (nly - level)) (2 ^ (nly - level))))
    level k = all-flat Narrow (three k) (λ line. (narrow k line 0, (narrow k line 1, (narrow k line 2, tt)))) (range_with_len (precinct * 2 ^ (nly - k)) (2 ^ (nly - k)))
