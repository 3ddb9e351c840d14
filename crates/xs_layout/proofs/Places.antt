-- Where the types of a packet lie among the band types, and their sizes.
use Rattle.std.proofs.Common.{◌≡◌, ℕ, zero, suc, ◌+◌, ◌-◌, ◌*◌, ◌/◌, ◌^◌, ◌<◌, ◌≤◌, List, [], ◌∷◌, map, length, get_or, refl, ap, ◌∙◌, arith}
use Rattle.std.proofs.Math.ListN.{get_or-append}
use Rattle.std.proofs.lemmas.List.{get_or-append_right, length-map}
use Rattle.std.proofs.lemmas.List.FromFn.{get_or-map-range_with_len, length-map-range_with_len}
use Rattle.std.specs.List.{flat_map}
use Rattle.std.proofs.Common.{length-append, sym}
use Rattle.std.proofs.Math.Nat.{div-div-eq-div-mul, add-mul-div_right, pow-suc}
use Rattle.std.proofs.lemmas.Nat.{pow_pos}
use Rattle.xs_layout.specs.Laws.{SidesMakeUp, TypesCounted}
use Rattle.xs_layout.specs.declared.Format.{Format}
use Rattle.xs_layout.specs.declared.Format.TheVariants.{Mono, C422, C444}
use Rattle.xs_lists.specs.Spelling.{downto}
use Rattle.xs_layout.specs.Geometry.{low_size, high_size, BandType, hl, lh, hh, band_types, components_of}

abbrev three : ℕ → List BandType
three level = hl level level ∷ lh level level ∷ hh level level ∷ []

-- the three types of the level at place j
three_at : (levels : List ℕ) (j side : ℕ) (d : BandType) → j < length levels → side < 3 → (get_or (flat_map three levels) (3 * j + side) d).down ≡ get_or levels j 0
three_at [] j side d inside low = absurd (omega (arith, inside))
three_at (level ∷ levels) zero zero d inside low = refl
three_at (level ∷ levels) zero (suc zero) d inside low = refl
three_at (level ∷ levels) zero (suc (suc zero)) d inside low = refl
three_at (level ∷ levels) zero (suc (suc (suc side))) d inside low = absurd (omega (arith, low))
three_at (level ∷ levels) (suc j) side d inside low =
    let next : 3 * suc j + side ≡ suc (suc (suc (3 * j + side))) = omega arith in
    ap (λ i. (get_or (flat_map three (level ∷ levels)) i d).down) next ∙ three_at levels j side d (omega (arith, inside)) low

downto_at : (top bottom j : ℕ) → j < top - bottom → get_or (downto top bottom) j 0 ≡ top - (j + 1)
downto_at top bottom j inside = get_or-map-range_with_len (λ i. top - (i + 1)) 0 (top - bottom) j j 0 inside (omega arith)

length-downto : (top bottom : ℕ) → length (downto top bottom) ≡ top - bottom
length-downto top bottom = length-map-range_with_len (λ i. top - (i + 1)) 0 (top - bottom)

-- the types that are not split down
pub wide_down : (nlx nly i : ℕ) (d : BandType) → nly ≤ nlx → i ≤ nlx - nly → (get_or (band_types nlx nly) i d).down ≡ nly
wide_down nlx nly zero d below inside = refl
wide_down nlx nly (suc i) d below inside =
    let room : i < length (map (λ level. hl level nly) (downto (nlx + 1) (nly + 1))) = omega (arith, length-map (downto (nlx + 1) (nly + 1)) (λ level. hl level nly), length-downto (nlx + 1) (nly + 1), inside) in
    ap (λ (t : BandType). t.down) (get_or-append (map (λ level. hl level nly) (downto (nlx + 1) (nly + 1))) (flat_map three (downto (nly + 1) 1)) d i room)
    ∙ hl_down (downto (nlx + 1) (nly + 1)) i (omega (arith, length-downto (nlx + 1) (nly + 1), inside))
  where
    hl_down : (levels : List ℕ) (i : ℕ) → i < length levels → (get_or (map (λ level. hl level nly) levels) i d).down ≡ nly
    hl_down [] i inside = absurd (omega (arith, inside))
    hl_down (level ∷ levels) zero inside = refl
    hl_down (level ∷ levels) (suc i) inside = hl_down levels i (omega (arith, inside))

-- the types of a level that is split both ways
pub deep_down : (nlx nly level side : ℕ) (d : BandType) → nly ≤ nlx → 1 ≤ level → level ≤ nly → side < 3
    → (get_or (band_types nlx nly) (nlx - nly + 1 + 3 * (nly - level) + side) d).down ≡ level
deep_down nlx nly level side d below low high inside =
    let wide = map (λ level. hl level nly) (downto (nlx + 1) (nly + 1)) in
    let deep = flat_map three (downto (nly + 1) 1) in
    let size : length wide ≡ nlx - nly = omega (arith, length-map (downto (nlx + 1) (nly + 1)) (λ level. hl level nly), length-downto (nlx + 1) (nly + 1)) in
    let next : nlx - nly + 1 + 3 * (nly - level) + side ≡ suc (nlx - nly + (3 * (nly - level) + side)) = omega arith in
    let rest : nlx - nly + (3 * (nly - level) + side) - (nlx - nly) ≡ 3 * (nly - level) + side = omega arith in
    let back : nly + 1 - (nly - level + 1) ≡ level = omega (arith, high) in
    ap (λ i. (get_or (band_types nlx nly) i d).down) next
    ∙ ap (λ (t : BandType). t.down) (get_or-append_right wide deep (nlx - nly) (nlx - nly + (3 * (nly - level) + side)) d size (omega arith))
    ∙ ap (λ i. (get_or deep i d).down) rest
    ∙ three_at (downto (nly + 1) 1) (nly - level) side d (omega (arith, length-downto (nly + 1) 1, low, high)) inside
    ∙ downto_at (nly + 1) 1 (nly - level) (omega (arith, low, high)) ∙ back

-- a band of some types is of one of them
pub types_of_band : (f : Format) (band first types : ℕ) → first * components_of f ≤ band → band < first * components_of f + types * components_of f
    → (first ≤ band / components_of f) × (band / components_of f < first + types)
types_of_band Mono band first types low high = omega (arith, low, high)
types_of_band C422 band first types low high = omega (arith, low, high)
types_of_band C444 band first types low high = omega (arith, low, high)

-- a band of a type is one of the bands
pub below_bands : (f : Format) (band type types : ℕ) → band / components_of f < types → band < types * components_of f
below_bands Mono band type types h = omega (arith, h)
below_bands C422 band type types h = omega (arith, h)
below_bands C444 band type types h = omega (arith, h)

-- Sizes

pub sides_make_up : SidesMakeUp
sides_make_up n level =
    let d = 2 ^ level in
    let some : 0 < d = pow_pos level in
    let one : level + 1 ≡ suc level = omega arith in
    let double : 2 ^ (level + 1) ≡ d * 2 = ap (λ k. 2 ^ k) one ∙ pow-suc 2 level in
    let top : n + d * 2 - 1 ≡ n + d - 1 + 1 * d = omega (arith, some) in
    let halved : low_size n (level + 1) ≡ (low_size n level + 1) / 2 =
    ap (λ k. (n + k - 1) / k) double ∙ sym (div-div-eq-div-mul (n + d * 2 - 1) d 2) ∙ ap (λ x. x / d / 2) top ∙ ap (λ x. x / 2) (add-mul-div_right (n + d - 1) 1 some) in
    let back : level + 1 - 1 ≡ level = omega arith in
    let high : high_size n (level + 1) ≡ low_size n level / 2 = ap (λ k. low_size n k / 2) back in
    (halved, omega (arith, halved, high))

pub types_counted : TypesCounted
types_counted nlx nly below =
    let wide = map (λ level. hl level nly) (downto (nlx + 1) (nly + 1)) in
    omega (
      arith,
      below,
      length-append wide (flat_map three (downto (nly + 1) 1)),
      length-map (downto (nlx + 1) (nly + 1)) (λ level. hl level nly),
      length-downto (nlx + 1) (nly + 1),
      length-three (downto (nly + 1) 1),
      length-downto (nly + 1) 1,
    )
  where
    length-three : (levels : List ℕ) → length (flat_map three levels) ≡ 3 * length levels
    length-three = elim [ [] ↦ refl | ◌∷◌ level (levels → known) ↦ omega (arith, known) ]
