-- The bands that a component's joiner asks for, by their numbers.
use Rattle.std.proofs.Common.{◌≡◌, ℕ, zero, suc, ◌+◌, ◌-◌, ◌^◌, ◌<◌, ◌≤◌, true, refl, ap, sym, ◌∙◌, arith, inl, inr}
use Rattle.std.proofs.lemmas.Bool.{cases_lt}
use Rattle.xs_layout.specs.Geometry.{BandType, components_of}
use Rattle.xs_params.specs.declared.header.Header.{Header}
use Rattle.xs_params.specs.Geometry.{bands_of, band_type_of, band_width_of, band_height_of, precinct_lines}
use Rattle.xs_signal.specs.Wavelet.{Split, low_count, high_count, low_count_at}
use Rattle.xs_signal.specs.Stripe.{rows_at, rows_each}
use Rattle.xs_wave.specs.Bands.{IsBandSize, band_count, first_number, type_at}
use Rattle.xs_wave.proofs.Types.{deep_side, all_counted, first_next, first_type, wide_type, deep_type, room_deep}
use Rattle.xs_wave.proofs.BandSizes.{lowest_size}
use Rattle.xs_decoding.specs.Decoded.{band_number}
use Rattle.xs_decoding.proofs.Numbers.{number_below, type_of_number, width_of_number, height_of_number}
use Rattle.xs_decoding.proofs.Within.{hl_size, lh_size, hh_size, hl_room}
use Rattle.xs_joiner.specs.declared.source.Band.TheVariants.{Lowest, Hl, Lh, Hh}
use Rattle.xs_stripe.specs.Raised.{band_of}
use Rattle.xs_stripe.specs.Joined.{component_split}

-- a band is there, and has this size and so many lines in a precinct
pub record IsBandAs (h : Header) (band width height lines : ℕ) : Type 0 where
  pub there : band < bands_of h
  pub wide : band_width_of h band ≡ width
  pub high : band_height_of h band ≡ height
  pub each : precinct_lines h band ≡ lines

band_as : (h : Header) (component number width height lines : ℕ) → h.nly ≤ h.nlx → component < components_of h.shape.format → number < band_count (component_split h component)
    → IsBandSize (component_split h component) number width height → 2 ^ (h.nly - (type_at (component_split h component) number).down) ≡ lines → IsBandAs h (band_number h number component) width height lines
band_as h component number width height lines deep there inside size each = record {
  there = number_below h number component deep there inside;
  wide = width_of_number h number component there ∙ sym size.columns_are;
  high = height_of_number h number component there ∙ sym size.rows_are;
  each = ap (λ (t : BandType). 2 ^ (h.nly - t.down)) (type_of_number h number component there) ∙ each;
}

lowest_each : (s : Split) → s.down ≤ s.across → 2 ^ (s.down - (type_at s 0).down) ≡ rows_each s s.across
lowest_each s deep =
    let none : s.down - s.down ≡ s.down - s.across = omega (arith, deep) in
    ap (λ (t : BandType). 2 ^ (s.down - t.down)) (first_type s) ∙ ap (λ k. 2 ^ k) none

side_down : (level side : ℕ) → side < 3 → (deep_side level side).down ≡ level
side_down level zero few = refl
side_down level (suc zero) few = refl
side_down level (suc (suc side)) few = refl

side_each : (s : Split) (level side : ℕ) → s.down ≤ s.across → level < s.down → side < 3 → 2 ^ (s.down - (type_at s (first_number s (level + 1) + side)).down) ≡ rows_each s (suc level)
side_each s level side deep less few =
    ap (λ k. 2 ^ (s.down - (type_at s (k + side)).down)) (first_next s level) ∙ ap (λ (t : BandType). 2 ^ (s.down - t.down)) (deep_type s level side deep less few)
    ∙ ap (λ k. 2 ^ (s.down - k)) (side_down (suc level) side few)

hl_each : (s : Split) (level : ℕ) → s.down ≤ s.across → level < s.across → 2 ^ (s.down - (type_at s (first_number s (level + 1))).down) ≡ rows_each s (suc level)
hl_each s level deep inside =
    elim (cases_lt level s.down) [
      | inl less ↦
          let same : first_number s (level + 1) ≡ first_number s (level + 1) + 0 = omega arith in
          ap (λ k. 2 ^ (s.down - (type_at s k).down)) same ∙ side_each s level 0 deep less (omega arith)
      | inr past ↦
          let none : s.down - s.down ≡ s.down - suc level = omega (arith, past) in
          ap (λ k. 2 ^ (s.down - (type_at s k).down)) (first_next s level) ∙ ap (λ (t : BandType). 2 ^ (s.down - t.down)) (wide_type s level past inside) ∙ ap (λ k. 2 ^ k) none
    ]

pub lowest_as : (h : Header) (component : ℕ) → h.nly ≤ h.nlx → component < components_of h.shape.format
    → let s = component_split h component in IsBandAs h (band_of h component Lowest) (low_count_at s.width s.across) (rows_at s s.across) (rows_each s s.across)
lowest_as h component deep there =
    let s = component_split h component in
    band_as h component 0 (low_count_at s.width s.across) (rows_at s s.across) (rows_each s s.across) deep there (omega (arith, all_counted s deep)) (lowest_size s (low_count_at s.width s.across) (rows_at s s.across) deep refl refl) (lowest_each s deep)

pub hl_as : (h : Header) (component level : ℕ) → h.nly ≤ h.nlx → component < components_of h.shape.format → level < h.nlx
    → let s = component_split h component in IsBandAs h (band_of h component (Hl level)) (high_count (low_count_at s.width level)) (rows_at s (level + 1)) (rows_each s (suc level))
hl_as h component level deep there inside =
    let s = component_split h component in
    band_as h component (first_number s (level + 1)) (high_count (low_count_at s.width level)) (rows_at s (level + 1)) (rows_each s (suc level)) deep there (hl_room s level deep inside) (hl_size s level deep inside) (hl_each s level deep inside)

pub lh_as : (h : Header) (component level : ℕ) → h.nly ≤ h.nlx → component < components_of h.shape.format → level < h.nly
    → let s = component_split h component in IsBandAs h (band_of h component (Lh level)) (low_count (low_count_at s.width level)) (high_count (low_count_at s.height level)) (rows_each s (suc level))
lh_as h component level deep there less =
    let s = component_split h component in
    band_as h component (first_number s (level + 1) + 1) (low_count (low_count_at s.width level)) (high_count (low_count_at s.height level)) (rows_each s (suc level)) deep there (omega (arith, first_next s level, room_deep s level deep less))
    (lh_size s level deep less) (side_each s level 1 deep less (omega arith))

pub hh_as : (h : Header) (component level : ℕ) → h.nly ≤ h.nlx → component < components_of h.shape.format → level < h.nly
    → let s = component_split h component in IsBandAs h (band_of h component (Hh level)) (high_count (low_count_at s.width level)) (high_count (low_count_at s.height level)) (rows_each s (suc level))
hh_as h component level deep there less =
    let s = component_split h component in
    band_as h component (first_number s (level + 1) + 2) (high_count (low_count_at s.width level)) (high_count (low_count_at s.height level)) (rows_each s (suc level)) deep there (omega (arith, first_next s level, room_deep s level deep less))
    (hh_size s level deep less) (side_each s level 2 deep less (omega arith))

high_side : (h : Header) (component level side : ℕ) → h.nly ≤ h.nlx → component < components_of h.shape.format → level < h.nly → side < 3 → (deep_side (suc level) side).high_down ≡ true
    → (band_type_of h (band_number h (first_number (component_split h component) (level + 1) + side) component)).high_down ≡ true
high_side h component level side deep there less few high =
    let s = component_split h component in
    ap (λ (t : BandType). t.high_down) (type_of_number h (first_number s (level + 1) + side) component there) ∙ ap (λ k. (type_at s (k + side)).high_down) (first_next s level)
    ∙ ap (λ (t : BandType). t.high_down) (deep_type s level side deep less few) ∙ high

pub lh_high : (h : Header) (component level : ℕ) → h.nly ≤ h.nlx → component < components_of h.shape.format → level < h.nly → (band_type_of h (band_of h component (Lh level))).high_down ≡ true
lh_high h component level deep there less = high_side h component level 1 deep there less (omega arith) refl

pub hh_high : (h : Header) (component level : ℕ) → h.nly ≤ h.nlx → component < components_of h.shape.format → level < h.nly → (band_type_of h (band_of h component (Hh level))).high_down ≡ true
hh_high h component level deep there less = high_side h component level 2 deep there less (omega arith) refl
