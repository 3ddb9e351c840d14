-- The types of a component's bands by number, and their sizes.
use Rattle.std.proofs.Common.{◌≡◌, ℕ, zero, suc, ◌+◌, ◌-◌, ◌*◌, ◌<◌, ◌≤◌, List, [], ◌∷◌, map, length, get_or, refl, ap, ◌∙◌, arith, inl, inr}
use Rattle.std.specs.Prelude.{if◌then◌else◌}
use Rattle.std.specs.List.{flat_map}
use Rattle.std.proofs.Math.ListN.{get_or-append}
use Rattle.std.proofs.lemmas.Bool.{lt-ltb, le-ltb, cases_lt}
use Rattle.std.proofs.lemmas.List.{get_or-append_right, length-map}
use Rattle.std.proofs.lemmas.List.FromFn.{get_or-map-range_with_len, length-map-range_with_len}
use Rattle.xs_layout.proofs.Places.{types_counted}
use Rattle.xs_layout.specs.Geometry.{BandType, ll, hl, lh, hh}
use Rattle.xs_lists.specs.Spelling.{downto}
use Rattle.xs_signal.specs.Wavelet.{Split}
use Rattle.xs_wave.specs.Bands.{band_count, type_at, first_number}

abbrev three : ℕ → List BandType
three level = hl level level ∷ lh level level ∷ hh level level ∷ []

-- the three types of a level that is split both ways
abbrev pub deep_side : ℕ → ℕ → BandType
deep_side level zero = hl level level
deep_side level (suc zero) = lh level level
deep_side level (suc (suc side)) = hh level level

three_at : (levels : List ℕ) (j side : ℕ) (d : BandType) → j < length levels → side < 3 → get_or (flat_map three levels) (3 * j + side) d ≡ deep_side (get_or levels j 0) side
three_at [] j side d inside low = absurd (omega (arith, inside))
three_at (level ∷ levels) zero zero d inside low = refl
three_at (level ∷ levels) zero (suc zero) d inside low = refl
three_at (level ∷ levels) zero (suc (suc zero)) d inside low = refl
three_at (level ∷ levels) zero (suc (suc (suc side))) d inside low = absurd (omega (arith, low))
three_at (level ∷ levels) (suc j) side d inside low =
    let next : 3 * suc j + side ≡ suc (suc (suc (3 * j + side))) = omega arith in
    ap (λ i. get_or (flat_map three (level ∷ levels)) i d) next ∙ three_at levels j side d (omega (arith, inside)) low

downto_at : (top bottom j : ℕ) → j < top - bottom → get_or (downto top bottom) j 0 ≡ top - (j + 1)
downto_at top bottom j inside = get_or-map-range_with_len (λ i. top - (i + 1)) 0 (top - bottom) j j 0 inside (omega arith)

length-downto : (top bottom : ℕ) → length (downto top bottom) ≡ top - bottom
length-downto top bottom = length-map-range_with_len (λ i. top - (i + 1)) 0 (top - bottom)

hl_at : (nly : ℕ) (levels : List ℕ) (i : ℕ) (d : BandType) → i < length levels → get_or (map (λ level. hl level nly) levels) i d ≡ hl (get_or levels i 0) nly
hl_at nly [] i d inside = absurd (omega (arith, inside))
hl_at nly (level ∷ levels) zero d inside = refl
hl_at nly (level ∷ levels) (suc i) d inside = hl_at nly levels i d (omega (arith, inside))

-- ---- numbers

pub first_wide : (s : Split) (level : ℕ) → s.down < level → first_number s level ≡ s.across - level + 1
first_wide s level more = ap (λ t. if t then s.across - level + 1 else s.across - s.down + 1 + 3 * (s.down - level)) (lt-ltb s.down level more)

pub first_deep : (s : Split) (level : ℕ) → level ≤ s.down → first_number s level ≡ s.across - s.down + 1 + 3 * (s.down - level)
first_deep s level less = ap (λ t. if t then s.across - level + 1 else s.across - s.down + 1 + 3 * (s.down - level)) (le-ltb s.down level less)

pub all_counted : (s : Split) → s.down ≤ s.across → band_count s ≡ 2 * s.down + s.across + 1
unfolding band_count
all_counted s deep = types_counted s.across s.down deep

pub first_of_all : (s : Split) → s.down ≤ s.across → first_number s 0 ≡ band_count s
first_of_all s deep = omega (arith, first_deep s 0 (omega arith), all_counted s deep, deep)

pub first_of_last : (s : Split) → s.down ≤ s.across → first_number s s.across ≡ 1
first_of_last s deep =
    elim (cases_lt s.down s.across) [
      | inl more ↦ omega (arith, first_wide s s.across more)
      | inr less ↦ omega (arith, first_deep s s.across less, deep)
    ]

-- a level that is split across only has one band, another has three
pub next_wide : (s : Split) (level : ℕ) → s.down ≤ level → level < s.across → first_number s level ≡ first_number s (suc level) + 1
next_wide s level more inside =
    elim (cases_lt s.down level) [
      | inl over ↦ omega (arith, first_wide s level over, first_wide s (suc level) (omega (arith, more)), inside)
      | inr same ↦ omega (arith, first_deep s level same, first_wide s (suc level) (omega (arith, more)), inside, more, same)
    ]

pub next_deep : (s : Split) (level : ℕ) → level < s.down → first_number s level ≡ first_number s (suc level) + 3
next_deep s level less = omega (arith, first_deep s level (omega (arith, less)), first_deep s (suc level) (omega (arith, less)), less)

-- ---- types

pub first_type : (s : Split) → type_at s 0 ≡ ll s.across s.down
first_type s = refl

pub wide_type : (s : Split) (level : ℕ) → s.down ≤ level → level < s.across → type_at s (first_number s (suc level)) ≡ hl (suc level) s.down
wide_type s level more inside =
    let levels = downto (s.across + 1) (s.down + 1) in
    let wide = map (λ l. hl l s.down) levels in
    let deep = flat_map three (downto (s.down + 1) 1) in
    let i = s.across - suc level in
    let number : first_number s (suc level) ≡ suc i = omega (arith, first_wide s (suc level) (omega (arith, more))) in
    let size = length-downto (s.across + 1) (s.down + 1) in
    let room : i < length wide = omega (arith, length-map levels (λ l. hl l s.down), size, more, inside) in
    let back : s.across + 1 - (i + 1) ≡ suc level = omega (arith, inside) in
    ap (λ k. type_at s k) number ∙ get_or-append wide deep (ll 0 0) i room ∙ hl_at s.down levels i (ll 0 0) (omega (arith, size, more, inside))
    ∙ ap (λ l. hl l s.down) (downto_at (s.across + 1) (s.down + 1) i (omega (arith, more, inside)) ∙ back)

pub deep_type : (s : Split) (level side : ℕ) → s.down ≤ s.across → level < s.down → side < 3 → type_at s (first_number s (suc level) + side) ≡ deep_side (suc level) side
deep_type s level side below less inside =
    let levels = downto (s.across + 1) (s.down + 1) in
    let wide = map (λ l. hl l s.down) levels in
    let deep = flat_map three (downto (s.down + 1) 1) in
    let j = s.down - suc level in
    let number : first_number s (suc level) + side ≡ suc (s.across - s.down + (3 * j + side)) = omega (arith, first_deep s (suc level) (omega (arith, less))) in
    let size : length wide ≡ s.across - s.down = omega (arith, length-map levels (λ l. hl l s.down), length-downto (s.across + 1) (s.down + 1)) in
    let rest : s.across - s.down + (3 * j + side) - (s.across - s.down) ≡ 3 * j + side = omega arith in
    let back : s.down + 1 - (j + 1) ≡ suc level = omega (arith, less) in
    ap (λ k. type_at s k) number ∙ get_or-append_right wide deep (s.across - s.down) (s.across - s.down + (3 * j + side)) (ll 0 0) size (omega arith) ∙ ap (λ i. get_or deep i (ll 0 0)) rest
    ∙ three_at (downto (s.down + 1) 1) j side (ll 0 0) (omega (arith, length-downto (s.down + 1) 1, less)) inside
    ∙ ap (λ l. deep_side l side) (downto_at (s.down + 1) 1 j (omega (arith, less)) ∙ back)

-- ---- room

pub first_most : (s : Split) (level : ℕ) → s.down ≤ s.across → level ≤ s.across → first_number s level ≤ band_count s
first_most s level deep inside =
    elim (cases_lt s.down level) [
      | inl more ↦ omega (arith, first_wide s level more, all_counted s deep, inside)
      | inr less ↦ omega (arith, first_deep s level less, all_counted s deep, inside, deep)
    ]

pub room_wide : (s : Split) (level : ℕ) → s.down ≤ s.across → s.down ≤ level → level < s.across → first_number s (suc level) < band_count s
room_wide s level deep more inside = omega (arith, next_wide s level more inside, first_most s level deep (omega (arith, inside)))

pub room_deep : (s : Split) (level : ℕ) → s.down ≤ s.across → level < s.down → first_number s (suc level) + 2 < band_count s
room_deep s level deep less = omega (arith, next_deep s level less, first_most s level deep (omega (arith, less, deep)))

pub first_next : (s : Split) (level : ℕ) → first_number s (level + 1) ≡ first_number s (suc level)
first_next s level = let next : level + 1 ≡ suc level = omega arith in ap (first_number s) next
