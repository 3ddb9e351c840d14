-- The gains of the band types.
use Rattle.std.proofs.Common.{◌≡◌, ℕ, zero, suc, ◌+◌, ◌-◌, ◌*◌, ◌/◌, ◌%◌, ◌<◌, ◌≤◌, List, [], ◌∷◌, map, length, get_or, sym, ap, ◌∙◌, arith}
use Rattle.std.specs.List.{flat_map}
use Rattle.std.proofs.lemmas.List.{get_or_append_left, get_or-append_right, get_or-map, length-map}
use Rattle.std.proofs.lemmas.List.FromFn.{get_or-map-range_with_len, length-map-range_with_len}
use Rattle.xs_lists.specs.Spelling.{downto}
use Rattle.xs_layout.specs.Geometry.{BandType, hl, lh, hh, band_types}
use Rattle.xs_layout.specs.Weighting.{default_gain}

downto_at : (top bottom j : ℕ) → j < top - bottom → get_or (downto top bottom) j 0 ≡ top - (j + 1)
downto_at top bottom j inside = get_or-map-range_with_len (λ i. top - (i + 1)) 0 (top - bottom) j j 0 inside (omega arith)

length-downto : (top bottom : ℕ) → length (downto top bottom) ≡ top - bottom
length-downto top bottom = length-map-range_with_len (λ i. top - (i + 1)) 0 (top - bottom)

abbrev wide_types : ℕ → ℕ → List BandType
wide_types nlx nly = map (λ level. hl level nly) (downto (nlx + 1) (nly + 1))

abbrev three : ℕ → List BandType
three level = hl level level ∷ lh level level ∷ hh level level ∷ []

length-wide_types : (nlx nly : ℕ) → length (wide_types nlx nly) ≡ nlx - nly
length-wide_types nlx nly = omega (arith, length-map (downto (nlx + 1) (nly + 1)) (λ level. hl level nly), length-downto (nlx + 1) (nly + 1))

-- the types that are not split down
pub gain_wide : (nlx nly i : ℕ) (d : BandType) → nly ≤ nlx → i ≤ nlx - nly → default_gain (get_or (band_types nlx nly) i d) ≡ (nlx + nly - i) / 2
gain_wide nlx nly zero d below inside = omega arith
gain_wide nlx nly (suc i) d below inside =
    let room : i < length (wide_types nlx nly) = omega (arith, length-wide_types nlx nly, inside) in
    let among : i < length (downto (nlx + 1) (nly + 1)) = omega (arith, length-downto (nlx + 1) (nly + 1), inside) in
    let steps : nlx + 1 - (i + 1) - 1 + nly ≡ nlx + nly - suc i = omega (arith, inside, below) in
    ap default_gain (get_or_append_left (wide_types nlx nly) (flat_map three (downto (nly + 1) 1)) d i room)
    ∙ ap default_gain (get_or-map (λ level. hl level nly) (downto (nlx + 1) (nly + 1)) i 0 d among)
    ∙ ap (λ level. (level - 1 + nly) / 2) (downto_at (nlx + 1) (nly + 1) i (omega (arith, inside)))
    ∙ ap (λ n. n / 2) steps

-- the three types of a level have the same gain
gain_three : (levels : List ℕ) (j side : ℕ) (d : BandType) → j < length levels → side < 3 → default_gain (get_or (flat_map three levels) (3 * j + side) d) ≡ get_or levels j 0 - 1
gain_three [] j side d inside low = absurd (omega (arith, inside))
gain_three (level ∷ levels) zero zero d inside low = omega arith
gain_three (level ∷ levels) zero (suc zero) d inside low = omega arith
gain_three (level ∷ levels) zero (suc (suc zero)) d inside low = omega arith
gain_three (level ∷ levels) zero (suc (suc (suc side))) d inside low = absurd (omega (arith, low))
gain_three (level ∷ levels) (suc j) side d inside low =
    let next : 3 * suc j + side ≡ suc (suc (suc (3 * j + side))) = omega arith in
    ap (λ i. default_gain (get_or (flat_map three (level ∷ levels)) i d)) next ∙ gain_three levels j side d (omega (arith, inside)) low

-- the types that are split both ways
pub gain_deep : (nlx nly i : ℕ) (d : BandType) → nly ≤ nlx → nlx - nly + 1 ≤ i → i < 2 * nly + nlx + 1
    → default_gain (get_or (band_types nlx nly) i d) ≡ nly - (i - (nlx - nly + 1)) / 3 - 1
gain_deep nlx nly zero d below low high = absurd (omega (arith, low))
gain_deep nlx nly (suc i) d below low high =
    let deep = flat_map three (downto (nly + 1) 1) in
    let k = i - (nlx - nly) in
    let parts : k ≡ 3 * (k / 3) + k % 3 = omega arith in
    let inside : k / 3 < nly = omega (arith, low, high, below) in
    let same : suc i - (nlx - nly + 1) ≡ k = omega arith in
    let level : nly + 1 - (k / 3 + 1) - 1 ≡ nly - k / 3 - 1 = omega arith in
    ap default_gain (get_or-append_right (wide_types nlx nly) deep (nlx - nly) i d (length-wide_types nlx nly) (omega (arith, low)))
    ∙ ap (λ n. default_gain (get_or deep n d)) parts
    ∙ gain_three (downto (nly + 1) 1) (k / 3) (k % 3) d (omega (arith, length-downto (nly + 1) 1, inside)) (omega arith)
    ∙ ap (λ n. n - 1) (downto_at (nly + 1) 1 (k / 3) (omega (arith, inside)))
    ∙ level
    ∙ ap (λ n. nly - n / 3 - 1) (sym same)
