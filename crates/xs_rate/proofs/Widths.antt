-- The packets of a picture have a quarter of its columns as code groups, and a few more.
use Rattle.std.proofs.Common.{◌≡◌, ℕ, zero, suc, ◌+◌, ◌-◌, ◌*◌, ◌/◌, ◌%◌, ◌^◌, ◌<◌, ◌≤◌, List, [], map, get_or, refl, ap, ◌∙◌, arith}
use Rattle.std.specs.List.{flat_map, sum_by, range_with_len, AllByRecursion, Contains}
use Rattle.std.proofs.lemmas.List.Elements.{All-contains, All-from_recursion}
use Rattle.std.proofs.lemmas.List.Sums.{sum_by-cons}
use Rattle.xs_lists.specs.Spelling.{upto, downto}
use Rattle.xs_layout.specs.declared.Format.{Format}
use Rattle.xs_layout.specs.declared.Format.TheVariants.{Mono, C422, C444}
use Rattle.xs_params.specs.declared.header.Header.{Header}
use Rattle.xs_layout.specs.Geometry.{components_of, component_width_of, low_size, side_size, ll, band_types, PacketPlace, packet_places_of}
use Rattle.xs_params.specs.Geometry.{packets_of, has_line}
use Rattle.xs_rate.proofs.Narrow.{all-flat, all-kept, wide-sum, side-most, low-most, groups-most, type_groups, packet_groups, all-narrow}
use Rattle.xs_rate.specs.Laws.{HasNarrowPackets, PacketsAreNarrow}

-- the code groups of a type in a component of so many columns, and those of a band of three components
abbrev at_type : ℕ → ℕ → ℕ → ℕ → ℕ
at_type nlx nly width i = type_groups width (get_or (band_types nlx nly) i (ll 0 0))

abbrev of_three : (ℕ → ℕ) → ℕ → ℕ → ℕ → ℕ
of_three w nlx nly band = type_groups (w (band % 3)) (get_or (band_types nlx nly) (band / 3) (ll 0 0))

band_is : (w : ℕ → ℕ) (nlx nly i c band : ℕ) → band ≡ i * 3 + c → c < 3 → of_three w nlx nly band ≡ at_type nlx nly (w c) i
band_is w nlx nly i c band e inside =
    let side : band % 3 ≡ c = omega (arith, e, inside) in
    let type : band / 3 ≡ i = omega (arith, e, inside) in
    ap (λ k. type_groups (w k) (get_or (band_types nlx nly) (band / 3) (ll 0 0))) side ∙ ap (λ k. at_type nlx nly (w c) k) type

-- band after band is component after component
three-sum : (w : ℕ → ℕ) (nlx nly first types : ℕ) → sum_by (of_three w nlx nly) (range_with_len (first * 3) (types * 3))
    ≡ sum_by (at_type nlx nly (w 0)) (range_with_len first types) + sum_by (at_type nlx nly (w 1)) (range_with_len first types) + sum_by (at_type nlx nly (w 2)) (range_with_len first types)
three-sum w nlx nly first zero = refl
three-sum w nlx nly first (suc types) =
    let g : ℕ → ℕ = of_three w nlx nly in
    let a = first * 3 in
    let count : suc types * 3 ≡ suc (suc (suc (types * 3))) = omega arith in
    let next : first * 3 + 1 + 1 + 1 ≡ (first + 1) * 3 = omega arith in
    omega (
      arith,
      ap (λ n. sum_by g (range_with_len (first * 3) n)) count,
      sum_by-cons g a (range_with_len (a + 1) (suc (suc (types * 3)))),
      sum_by-cons g (a + 1) (range_with_len (a + 1 + 1) (suc (types * 3))),
      sum_by-cons g (a + 1 + 1) (range_with_len (a + 1 + 1 + 1) (types * 3)),
      ap (λ k. sum_by g (range_with_len k (types * 3))) next,
      three-sum w nlx nly (first + 1) types,
      band_is w nlx nly first 0 a (omega arith) (omega arith),
      band_is w nlx nly first 1 (a + 1) (omega arith) (omega arith),
      band_is w nlx nly first 2 (a + 1 + 1) (omega arith) (omega arith),
      sum_by-cons (at_type nlx nly (w 0)) first (range_with_len (first + 1) types),
      sum_by-cons (at_type nlx nly (w 1)) first (range_with_len (first + 1) types),
      sum_by-cons (at_type nlx nly (w 2)) first (range_with_len (first + 1) types),
    )

-- one component
wide-part : (width nlx nly : ℕ) → nly ≤ nlx → 4 * sum_by (at_type nlx nly width) (range_with_len 0 (nlx - nly + 1)) ≤ width + 3 * (nlx - nly + 1)
wide-part width nlx nly below = bound (low_size width (nlx - (nlx - nly))) (wide-sum width nlx nly (nlx - nly) below (omega arith)) (low-most width (nlx - (nlx - nly)))
  where
    bound : (low : ℕ) → 4 * sum_by (at_type nlx nly width) (range_with_len 0 (nlx - nly + 1)) ≤ low + 3 * (nlx - nly + 1) → low ≤ width → 4 * sum_by (at_type nlx nly width) (range_with_len 0 (nlx - nly + 1)) ≤ width + 3 * (nlx - nly + 1)
    bound low p q = omega (arith, p, q)

one-part : (width nlx nly i : ℕ) → 4 * sum_by (at_type nlx nly width) (range_with_len i 1) ≤ width + 3
one-part width nlx nly i =
    let type = get_or (band_types nlx nly) i (ll 0 0) in
    let side = side_size width type.across type.high_across in
    omega (arith, sum_by-cons (at_type nlx nly width) i [], groups-most side, side-most width type.across type.high_across)

-- three components
three-narrow : (w : ℕ → ℕ) (nlx nly precinct columns : ℕ) → w 0 + w 1 + w 2 ≤ columns → nlx ≤ 5 → nly ≤ nlx
    → AllByRecursion (λ (place : PacketPlace). 4 * sum_by (of_three w nlx nly) (range_with_len (place.first_type * 3) (place.types * 3)) ≤ columns + 54) (packet_places_of nlx nly precinct)
three-narrow w nlx nly precinct columns most few below =
    (first, all-flat Narrow (λ level. flat_map (three level) (range_with_len (precinct * 2 ^ (nly - level)) (2 ^ (nly - level)))) level (downto (nly + 1) 1))
  where
    Narrow : PacketPlace → Type 0
    Narrow place = 4 * sum_by (of_three w nlx nly) (range_with_len (place.first_type * 3) (place.types * 3)) ≤ columns + 54

    first : 4 * sum_by (of_three w nlx nly) (range_with_len (0 * 3) ((nlx - nly + 1) * 3)) ≤ columns + 54
    first = omega (arith, three-sum w nlx nly 0 (nlx - nly + 1), wide-part (w 0) nlx nly below, wide-part (w 1) nlx nly below, wide-part (w 2) nlx nly below, most, few)

    place_at : ℕ → ℕ → ℕ → PacketPlace
    place_at level line side = record { first_type = nlx - nly + 1 + 3 * (nly - level) + side; types = 1; line = line }

    three : ℕ → ℕ → List PacketPlace
    three level line = map (place_at level line) (upto 3)

    one : (i : ℕ) → 4 * sum_by (of_three w nlx nly) (range_with_len (i * 3) (1 * 3)) ≤ columns + 54
    one i = omega (arith, three-sum w nlx nly i 1, one-part (w 0) nlx nly i, one-part (w 1) nlx nly i, one-part (w 2) nlx nly i, most)

    narrow : (level line side : ℕ) → Narrow (place_at level line side)
    narrow level line side = one (nlx - nly + 1 + 3 * (nly - level) + side)

    level : (level : ℕ) → AllByRecursion Narrow (flat_map (three level) (range_with_len (precinct * 2 ^ (nly - level)) (2 ^ (nly - level))))
    level k = all-flat Narrow (three k) (λ line. (narrow k line 0, (narrow k line 1, (narrow k line 2, tt)))) (range_with_len (precinct * 2 ^ (nly - k)) (2 ^ (nly - k)))

-- every format
abbrev columns_with : Format → ℕ → ℕ
columns_with format width = sum_by (component_width_of format width) (upto (components_of format))

all-formats : (format : Format) (width nlx nly precinct columns : ℕ) → columns_with format width ≤ columns → nlx ≤ 5 → nly ≤ nlx
    → AllByRecursion (λ place. 4 * packet_groups format width nlx nly place ≤ columns + 54) (packet_places_of nlx nly precinct)
all-formats Mono width nlx nly precinct columns most few below = all-narrow width nlx nly precinct columns (omega (arith, most)) few below
all-formats C422 width nlx nly precinct columns most few below = three-narrow (component_width_of C422 width) nlx nly precinct columns (omega (arith, most)) few below
all-formats C444 width nlx nly precinct columns most few below = three-narrow (component_width_of C444 width) nlx nly precinct columns (omega (arith, most)) few below

packet-groups : (h : Header) (columns : ℕ) → columns_with h.shape.format h.shape.width ≤ columns → h.nlx ≤ 5 → h.nly ≤ h.nlx → (precinct : ℕ) (place : PacketPlace) → Contains (packets_of h precinct) place
    → 4 * packet_groups h.shape.format h.shape.width h.nlx h.nly place ≤ columns + 54
packet-groups h columns most few below precinct place there =
    All-contains Narrow (packets_of h precinct) place (All-from_recursion Narrow (packets_of h precinct) (all-kept Narrow (has_line h) (packet_places_of h.nlx h.nly precinct) places)) there
  where
    Narrow : PacketPlace → Type 0
    Narrow place = 4 * packet_groups h.shape.format h.shape.width h.nlx h.nly place ≤ columns + 54

    places : AllByRecursion Narrow (packet_places_of h.nlx h.nly precinct)
    places = all-formats h.shape.format h.shape.width h.nlx h.nly precinct columns most few below

all-columns : (format : Format) (width : ℕ) → width ≤ 8192 → columns_with format width ≤ 24576
all-columns Mono width most = omega (arith, most)
all-columns C422 width most = omega (arith, most)
all-columns C444 width most = omega (arith, most)

pub narrow_packets : PacketsAreNarrow
narrow_packets h wide few below precinct place there = omega (arith, packet-groups h 24576 (all-columns h.shape.format h.shape.width wide) few below precinct place there)
