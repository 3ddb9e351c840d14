-- The types of bands by number.
use Rattle.std.proofs.Common.{◌≡◌, ℕ, zero, suc, ◌+◌, ◌-◌, ◌*◌, ◌<◌, ◌≤◌, List, [], ◌∷◌, map, length, get_or, refl, ap, ◌∙◌, arith}
use Rattle.std.specs.List.{flat_map}
use Rattle.std.proofs.Math.ListN.{get_or-append}
use Rattle.std.proofs.lemmas.List.{get_or-append_right, length-map}
use Rattle.std.proofs.lemmas.List.FromFn.{get_or-map-range_with_len, length-map-range_with_len}
use Rattle.xs_layout.specs.Geometry.{BandType, ll, hl, lh, hh, band_types}
use Rattle.xs_lists.specs.Spelling.{downto}
use Rattle.xs_geometry.specs.Sides.{deep_side}

abbrev three : ℕ → List BandType
three level = hl level level ∷ lh level level ∷ hh level level ∷ []

three_at : (levels : List ℕ) (j side : ℕ) (d : BandType) → j < length levels → side < 3 → get_or (flat_map three levels) (3 * j + side) d ≡ deep_side (get_or levels j 0) side
three_at [] j side d inside low = absurd (omega (arith, inside))
three_at (level ∷ levels) zero zero d inside low = refl
three_at (level ∷ levels) zero (suc zero) d inside low = refl
three_at (level ∷ levels) zero (suc (suc zero)) d inside low = refl
three_at (level ∷ levels) zero (suc (suc (suc side))) d inside low = absurd (omega (arith, low))
three_at (level ∷ levels) (suc j) side d inside low =
    let next : 3 * suc j + side ≡ suc (suc (suc (3 * j + side))) = omega arith in
    ap (λ i. get_or (flat_map three (level ∷ levels)) i d) next ∙ three_at levels j side d (omega (arith, inside)) low

downto_at : (top bottom j : ℕ) → j < top - bottom → get_or (downto top bottom) j 0 ≡ top - (j + 1)
downto_at top bottom j inside = get_or-map-range_with_len (λ i. top - (i + 1)) 0 (top - bottom) j j 0 inside (omega arith)

length-downto : (top bottom : ℕ) → length (downto top bottom) ≡ top - bottom
length-downto top bottom = length-map-range_with_len (λ i. top - (i + 1)) 0 (top - bottom)

hl_at : (nly : ℕ) (levels : List ℕ) (i : ℕ) (d : BandType) → i < length levels → get_or (map (λ level. hl level nly) levels) i d ≡ hl (get_or levels i 0) nly
hl_at nly [] i d inside = absurd (omega (arith, inside))
hl_at nly (level ∷ levels) zero d inside = refl
hl_at nly (level ∷ levels) (suc i) d inside = hl_at nly levels i d (omega (arith, inside))

-- the types that are split across only
pub wide_type : (nlx nly number : ℕ) → 1 ≤ number → number ≤ nlx - nly → get_or (band_types nlx nly) number (ll 0 0) ≡ hl (nlx + 1 - number) nly
wide_type nlx nly zero some inside = absurd (omega (arith, some))
wide_type nlx nly (suc i) some inside =
    let levels = downto (nlx + 1) (nly + 1) in
    let wide = map (λ l. hl l nly) levels in
    let deep = flat_map three (downto (nly + 1) 1) in
    let size = length-downto (nlx + 1) (nly + 1) in
    let room : i < length wide = omega (arith, length-map levels (λ l. hl l nly), size, inside) in
    let back : nlx + 1 - (i + 1) ≡ nlx + 1 - suc i = omega arith in
    get_or-append wide deep (ll 0 0) i room ∙ hl_at nly levels i (ll 0 0) (omega (arith, size, inside)) ∙ ap (λ l. hl l nly) (downto_at (nlx + 1) (nly + 1) i (omega (arith, inside)) ∙ back)

-- the types of a level that is split both ways
pub deep_type : (nlx nly number j side : ℕ) → number ≡ nlx - nly + 1 + (3 * j + side) → j < nly → side < 3 → get_or (band_types nlx nly) number (ll 0 0) ≡ deep_side (nly - j) side
deep_type nlx nly number j side here less inside =
    let levels = downto (nlx + 1) (nly + 1) in
    let wide = map (λ l. hl l nly) levels in
    let deep = flat_map three (downto (nly + 1) 1) in
    let next : number ≡ suc (nlx - nly + (3 * j + side)) = omega (arith, here) in
    let size : length wide ≡ nlx - nly = omega (arith, length-map levels (λ l. hl l nly), length-downto (nlx + 1) (nly + 1)) in
    let rest : nlx - nly + (3 * j + side) - (nlx - nly) ≡ 3 * j + side = omega arith in
    let back : nly + 1 - (j + 1) ≡ nly - j = omega (arith, less) in
    ap (λ k. get_or (band_types nlx nly) k (ll 0 0)) next ∙ get_or-append_right wide deep (nlx - nly) (nlx - nly + (3 * j + side)) (ll 0 0) size (omega arith) ∙ ap (λ i. get_or deep i (ll 0 0)) rest
    ∙ three_at (downto (nly + 1) 1) j side (ll 0 0) (omega (arith, length-downto (nly + 1) 1, less)) inside
    ∙ ap (λ l. deep_side l side) (downto_at (nly + 1) 1 j (omega (arith, less)) ∙ back)
