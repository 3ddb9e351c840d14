-- The bands of a component, by the number of their type.
use Rattle.std.proofs.Common.{◌≡◌, ℕ, zero, suc, ◌+◌, ◌-◌, ◌*◌, ◌/◌, ◌%◌, ◌<◌, ◌≤◌, get_or, refl, ap, sym, ◌∙◌, arith, inl, inr}
use Rattle.std.proofs.lemmas.Bool.{cases_lt}
use Rattle.xs_layout.specs.declared.Format.{Format}
use Rattle.xs_layout.specs.declared.Format.TheVariants.{Mono, C422, C444}
use Rattle.xs_layout.specs.Geometry.{ll, band_types, components_of}
use Rattle.xs_params.specs.declared.header.Header.{Header}
use Rattle.xs_signal.specs.Wavelet.{Split, band_plane}
use Rattle.xs_params.specs.Geometry.{bands_of, band_component, band_type_of, band_width_of, band_height_of}
use Rattle.xs_rate.specs.Coefficients.{Rows, signal_of}
use Rattle.xs_wave.specs.Bands.{type_at, band_count, first_number, columns_in, rows_in}
use Rattle.xs_wave.proofs.Types.{deep_side, first_wide, first_deep, wide_type, deep_type, all_counted}
use Rattle.xs_decoding.specs.Decoded.{band_number, level_type, component_bands}
use Rattle.xs_decoding.specs.Laws.{BandsByType}

-- how a component is split
abbrev pub split_of : Header → ℕ → Split
split_of h component = (signal_of h).split component

-- ---- numbers of bands

pub type_in : (f : Format) (number component : ℕ) → component < components_of f → (number * components_of f + component) / components_of f ≡ number
type_in Mono number component there = omega (arith, there)
type_in C422 number component there = omega (arith, there)
type_in C444 number component there = omega (arith, there)

component_in : (f : Format) (number component : ℕ) → component < components_of f → (number * components_of f + component) % components_of f ≡ component
component_in Mono number component there = omega (arith, there)
component_in C422 number component there = omega (arith, there)
component_in C444 number component there = omega (arith, there)

below_in : (f : Format) (number component types : ℕ) → component < components_of f → number < types → number * components_of f + component < types * components_of f
below_in Mono number component types there inside = omega (arith, there, inside)
below_in C422 number component types there inside = omega (arith, there, inside)
below_in C444 number component types there inside = omega (arith, there, inside)

pub component_of_number : (h : Header) (number component : ℕ) → component < components_of h.shape.format → band_component h (band_number h number component) ≡ component
component_of_number h number component there = component_in h.shape.format number component there

pub type_of_number : (h : Header) (number component : ℕ) → component < components_of h.shape.format → band_type_of h (band_number h number component) ≡ type_at (split_of h component) number
type_of_number h number component there = ap (λ i. get_or (band_types h.nlx h.nly) i (ll 0 0)) (type_in h.shape.format number component there)

pub number_below : (h : Header) (number component : ℕ) → h.nly ≤ h.nlx → component < components_of h.shape.format → number < band_count (split_of h component)
    → band_number h number component < bands_of h
number_below h number component deep there inside =
    below_in h.shape.format number component (2 * h.nly + h.nlx + 1) there (omega (arith, inside, all_counted (split_of h component) deep))

pub width_of_number : (h : Header) (number component : ℕ) → component < components_of h.shape.format
    → band_width_of h (band_number h number component) ≡ columns_in (split_of h component) (type_at (split_of h component) number)
width_of_number h number component there =
    ap (λ c. columns_in (split_of h c) (band_type_of h (band_number h number component))) (component_of_number h number component there)
    ∙ ap (columns_in (split_of h component)) (type_of_number h number component there)

pub height_of_number : (h : Header) (number component : ℕ) → component < components_of h.shape.format
    → band_height_of h (band_number h number component) ≡ rows_in (split_of h component) (type_at (split_of h component) number)
height_of_number h number component there = ap (rows_in (split_of h component)) (type_of_number h number component there)

-- ---- the plane of a band

deep_plane : (h : Header) (rows : Rows) (component level side : ℕ) → side < 3
    → band_plane (component_bands h rows component) (deep_side level side) ≡ rows (band_number h (level_type h level + side) component)
deep_plane h rows component level zero inside = ap (λ k. rows (band_number h k component)) (omega arith)
deep_plane h rows component level (suc zero) inside = refl
deep_plane h rows component level (suc (suc zero)) inside = refl
deep_plane h rows component level (suc (suc (suc side))) inside = absurd (omega (arith, inside))

-- the plane of the type with a number is that of its band
pub plane_of_number : (h : Header) (rows : Rows) (number component : ℕ) → h.nly ≤ h.nlx → number < band_count (split_of h component)
    → band_plane (component_bands h rows component) (type_at (split_of h component) number) ≡ rows (band_number h number component)
plane_of_number h rows zero component deep inside = refl
plane_of_number h rows (suc before) component deep inside =
    let s = split_of h component in
    let b = component_bands h rows component in
    let all = all_counted s deep in
    elim (cases_lt before (h.nlx - h.nly)) [
      | inl wide ↦
          let level = h.nlx - suc before in
          let here : first_number s (suc level) ≡ suc before = omega (arith, first_wide s (suc level) (omega (arith, wide)), wide) in
          ap (λ k. band_plane b (type_at s k)) (sym here) ∙ ap (band_plane b) (wide_type s level (omega (arith, wide)) (omega (arith, wide))) ∙ ap (λ k. rows (band_number h k component)) here
      | inr past ↦
          let rest = before - (h.nlx - h.nly) in
          let level = h.nly - suc (rest / 3) in
          let side = rest % 3 in
          let less : level < h.nly = omega (arith, inside, all, past) in
          let low : side < 3 = omega arith in
          let here : first_number s (suc level) + side ≡ suc before = omega (arith, first_deep s (suc level) (omega (arith, less)), inside, all, past, deep) in
          ap (λ k. band_plane b (type_at s k)) (sym here) ∙ ap (band_plane b) (deep_type s level side deep less low) ∙ deep_plane h rows component (suc level) side low
          ∙ ap (λ k. rows (band_number h k component)) here
    ]

-- ---- all bands

split_number : (f : Format) (band : ℕ) → band ≡ band / components_of f * components_of f + band % components_of f
split_number Mono band = omega arith
split_number C422 band = omega arith
split_number C444 band = omega arith

component_below : (f : Format) (band : ℕ) → band % components_of f < components_of f
component_below Mono band = omega arith
component_below C422 band = omega arith
component_below C444 band = omega arith

number_inside : (f : Format) (band types : ℕ) → band < types * components_of f → band / components_of f < types
number_inside Mono band types inside = omega (arith, inside)
number_inside C422 band types inside = omega (arith, inside)
number_inside C444 band types inside = omega (arith, inside)

pub bands_by_type : BandsByType
bands_by_type h rows band accepted inside =
    let deep : h.nly ≤ h.nlx = omega (arith, accepted.geometry.nly) in
    let component = band_component h band in
    let number = band / components_of h.shape.format in
    let less : number < band_count (split_of h component) = omega (arith, number_inside h.shape.format band (2 * h.nly + h.nlx + 1) inside, all_counted (split_of h component) deep) in
    plane_of_number h rows number component deep less ∙ ap rows (sym (split_number h.shape.format band))
