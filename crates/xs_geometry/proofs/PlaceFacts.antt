-- What the place of a packet says of its bands.
use Rattle.std.proofs.Common.{◌≡◌, ℕ, zero, suc, ◌+◌, ◌-◌, ◌*◌, ◌/◌, ◌^◌, ◌<◌, ◌≤◌, get_or, refl, sym, ap, ◌∙◌, arith}
use Rattle.std.specs.List.{range_with_len, Contains}
use Rattle.std.proofs.lemmas.List.FromFn.{get_or-range_with_len, length-range_with_len}
use Rattle.xs_layout.specs.declared.Format.{Format}
use Rattle.xs_layout.specs.declared.Format.TheVariants.{Mono, C422, C444}
use Rattle.xs_layout.specs.Geometry.{BandType, PacketPlace, ll, band_types, components_of, low_size, high_size, side_size}
use Rattle.xs_layout.proofs.Places.{types_of_band, wide_down}
use Rattle.xs_params.specs.declared.header.Header.{Header}
use Rattle.xs_params.specs.Geometry.{band_height_of, packet_bands}
use Rattle.xs_geometry.specs.Sides.{deep_side}
use Rattle.xs_geometry.proofs.Types.{wide_type, deep_type}

-- Ranges

pub range_has : (a n x : ℕ) → Contains (range_with_len a n) x → (a ≤ x) × (x < a + n)
range_has a n x has =
    let inside : has.0 < n = omega (arith, has.1, length-range_with_len a n) in
    let value : x ≡ a + has.0 = sym has.2 ∙ get_or-range_with_len a n has.0 x inside in
    (omega (arith, value), omega (arith, value, inside))

pub in_range : (a n x : ℕ) → a ≤ x → x < a + n → Contains (range_with_len a n) x
in_range a n x low high =
    let inside : x - a < n = omega (arith, low, high) in
    let back : a + (x - a) ≡ x = omega (arith, low) in
    (x - a, omega (arith, inside, length-range_with_len a n), get_or-range_with_len a n (x - a) x inside ∙ back)

-- Bands of types

pub first_band : (f : Format) (type : ℕ) → type * components_of f / components_of f ≡ type
first_band Mono type = omega arith
first_band C422 type = omega arith
first_band C444 type = omega arith

bands_between : (f : Format) (band first types : ℕ) → first ≤ band / components_of f → band / components_of f < first + types
    → (first * components_of f ≤ band) × (band < first * components_of f + types * components_of f)
bands_between Mono band first types low high = (omega (arith, low), omega (arith, high))
bands_between C422 band first types low high = (omega (arith, low), omega (arith, high))
bands_between C444 band first types low high = (omega (arith, low), omega (arith, high))

-- the type of a band
abbrev pub type_number : Header → ℕ → ℕ
type_number h band = band / components_of h.shape.format

-- the bands of a packet are those of its types
pub types_in : (h : Header) (place : PacketPlace) (band : ℕ) → Contains (packet_bands h place) band → (place.first_type ≤ type_number h band) × (type_number h band < place.first_type + place.types)
types_in h place band has =
    let between = range_has (place.first_type * components_of h.shape.format) (place.types * components_of h.shape.format) band has in
    types_of_band h.shape.format band place.first_type place.types between.0 between.1

pub bands_in : (h : Header) (place : PacketPlace) (band : ℕ) → place.first_type ≤ type_number h band → type_number h band < place.first_type + place.types → Contains (packet_bands h place) band
bands_in h place band low high =
    let between = bands_between h.shape.format band place.first_type place.types low high in
    in_range (place.first_type * components_of h.shape.format) (place.types * components_of h.shape.format) band between.0 between.1

-- Heights, by the type

abbrev pub type_at : Header → ℕ → BandType
type_at h type = get_or (band_types h.nlx h.nly) type (ll 0 0)

abbrev pub rows_in : Header → BandType → ℕ
rows_in h type = side_size h.shape.height type.down type.high_down

-- the first band of a type is as high as each of the type
pub first_height : (h : Header) (type : ℕ) → band_height_of h (type * components_of h.shape.format) ≡ rows_in h (type_at h type)
first_height h type = ap (λ t. rows_in h (type_at h t)) (first_band h.shape.format type)

-- types that are not split down
pub wide_rows : (h : Header) (type : ℕ) → type ≤ h.nlx - h.nly → rows_in h (type_at h type) ≡ low_size h.shape.height h.nly
wide_rows h zero inside = refl
wide_rows h (suc type) inside = ap (rows_in h) (wide_type h.nlx h.nly (suc type) (omega arith) inside)

abbrev pub side_rows : ℕ → ℕ → ℕ → ℕ
side_rows height level zero = low_size height level
side_rows height level (suc side) = high_size height level

rows_of_side : (h : Header) (level side : ℕ) → rows_in h (deep_side level side) ≡ side_rows h.shape.height level side
rows_of_side h level zero = refl
rows_of_side h level (suc zero) = refl
rows_of_side h level (suc (suc side)) = refl

-- types of a level that is split both ways
pub deep_rows : (h : Header) (type j side : ℕ) → type ≡ h.nlx - h.nly + 1 + (3 * j + side) → j < h.nly → side < 3 → rows_in h (type_at h type) ≡ side_rows h.shape.height (h.nly - j) side
deep_rows h type j side here less inside = ap (rows_in h) (deep_type h.nlx h.nly type j side here less inside) ∙ rows_of_side h (h.nly - j) side

-- Lines of a precinct, by the type

abbrev pub lines_in : Header → BandType → ℕ
lines_in h type = 2 ^ (h.nly - type.down)

pub wide_lines : (h : Header) (type : ℕ) → h.nly ≤ h.nlx → type ≤ h.nlx - h.nly → lines_in h (type_at h type) ≡ 1
wide_lines h type below inside =
    let none : h.nly - h.nly ≡ 0 = omega arith in
    ap (λ k. 2 ^ (h.nly - k)) (wide_down h.nlx h.nly type (ll 0 0) below inside) ∙ ap (λ k. 2 ^ k) none

lines_of_side : (h : Header) (level side : ℕ) → lines_in h (deep_side level side) ≡ 2 ^ (h.nly - level)
lines_of_side h level zero = refl
lines_of_side h level (suc zero) = refl
lines_of_side h level (suc (suc side)) = refl

pub deep_lines : (h : Header) (type j side : ℕ) → type ≡ h.nlx - h.nly + 1 + (3 * j + side) → j < h.nly → side < 3 → lines_in h (type_at h type) ≡ 2 ^ j
deep_lines h type j side here less inside =
    let back : h.nly - (h.nly - j) ≡ j = omega (arith, less) in
    ap (lines_in h) (deep_type h.nlx h.nly type j side here less inside) ∙ lines_of_side h (h.nly - j) side ∙ ap (λ k. 2 ^ k) back
