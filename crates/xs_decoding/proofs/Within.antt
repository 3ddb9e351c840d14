-- A decoded sample depends on the rows within their bands.
use Rattle.std.proofs.Common.{◌≡◌, ℕ, zero, suc, ◌+◌, ◌-◌, ◌*◌, ◌^◌, ◌<◌, ◌≤◌, ℤ, pos, ◌*ℤ◌, refl, ap, sym, subst, ◌∙◌, arith, inl, inr, Bool, true, false}
use Rattle.std.specs.Prelude.{if◌then◌else◌, nat_eq}
use Rattle.std.proofs.lemmas.Bool.{cases_lt}
use Rattle.xs_layout.specs.declared.Format.{Format}
use Rattle.xs_layout.specs.declared.Format.TheVariants.{Mono, C422, C444}
use Rattle.xs_layout.specs.Geometry.{components_of, component_width_of, ceil_div}
use Rattle.xs_layout.specs.declared.Shape.{Shape}
use Rattle.xs_params.specs.declared.header.Header.{Header}
use Rattle.xs_params.specs.Picture.{IsPlace, width_of}
use Rattle.xs_signal.specs.Colour.{unrct}
use Rattle.xs_signal.specs.Wavelet.{Split, Bands, low_count, high_count, low_count_at}
use Rattle.xs_signal.specs.Stripe.{IsSplit, rows_at}
use Rattle.xs_signal.specs.Picture.{each_entry, synthesised, uncoloured, one_of}
use Rattle.xs_signal.specs.Samples.{scale_out}
use Rattle.xs_signal.proofs.StripeLaws.{splits_where_large}
use Rattle.xs_params.specs.Accepted.{IsAccepted}
use Rattle.xs_rate.specs.Coefficients.{Rows, signal_of}
use Rattle.xs_wave.specs.Within.{SameWithin as SamePlanes, SameBandsWithin}
use Rattle.xs_wave.specs.Bands.{IsBandSize, IsComponent, band_count, first_number}
use Rattle.xs_wave.proofs.Types.{first_wide, first_deep, all_counted, first_next, room_wide, room_deep}
use Rattle.xs_wave.proofs.BandSizes.{lowest_size, wide_size, deep_size}
use Rattle.xs_wave.proofs.WithinLaws.{rows_deep, rows_kept, transforms_within}
use Rattle.xs_decoding.specs.Decoded.{band_number, component_bands}
use Rattle.xs_decoding.specs.Laws.{SameRowsWithin, DecodedWithin}
use Rattle.xs_decoding.proofs.Numbers.{split_of, number_below, width_of_number, height_of_number}

-- ---- components

narrower : (f : Format) (width component : ℕ) → component < components_of f → component_width_of f width (components_of f - 1) ≤ component_width_of f width component
narrower Mono width zero there = omega arith
narrower Mono width (suc component) there = absurd (omega (arith, there))
narrower C422 width zero there = omega arith
narrower C422 width (suc zero) there = omega arith
narrower C422 width (suc (suc zero)) there = omega arith
narrower C422 width (suc (suc (suc component))) there = absurd (omega (arith, there))
narrower C444 width zero there = omega arith
narrower C444 width (suc zero) there = omega arith
narrower C444 width (suc (suc zero)) there = omega arith
narrower C444 width (suc (suc (suc component))) there = absurd (omega (arith, there))

component_most : (f : Format) (width component : ℕ) → component < components_of f → 32 ≤ width → component_width_of f width component ≤ width
component_most Mono width zero there some = omega (arith, some)
component_most Mono width (suc component) there some = absurd (omega (arith, there))
component_most C422 width zero there some = omega (arith, some)
component_most C422 width (suc zero) there some = omega (arith, some)
component_most C422 width (suc (suc zero)) there some = omega (arith, some)
component_most C422 width (suc (suc (suc component))) there some = absurd (omega (arith, there))
component_most C444 width zero there some = omega (arith, some)
component_most C444 width (suc zero) there some = omega (arith, some)
component_most C444 width (suc (suc zero)) there some = omega (arith, some)
component_most C444 width (suc (suc (suc component))) there some = absurd (omega (arith, there))

-- each component of an accepted header is one as pictures have it
pub accepted_component : (h : Header) (component : ℕ) → IsAccepted h → component < components_of h.shape.format → IsComponent (split_of h component)
accepted_component h component accepted there = record {
  some = omega (arith, accepted.geometry.nlx);
  few = omega (arith, accepted.geometry.nlx);
  two = omega (arith, accepted.geometry.nly);
  deep = omega (arith, accepted.geometry.nly);
  wide = omega (arith, accepted.geometry.narrow, narrower h.shape.format h.shape.width component there);
  high = omega (arith, accepted.geometry.shape.height);
  width = omega (arith, accepted.geometry.shape.width, component_most h.shape.format h.shape.width component there accepted.geometry.shape.width.0);
  height = omega (arith, accepted.geometry.shape.height);
}

four_lines : (down : ℕ) → down ≤ 2 → 2 ^ down ≤ 4
four_lines zero few = omega arith
four_lines (suc zero) few = omega arith
four_lines (suc (suc zero)) few = omega arith
four_lines (suc (suc (suc down))) few = absurd (omega (arith, few))

component_splits : (s : Split) → IsComponent s → IsSplit s
component_splits s c = splits_where_large s c.wide (omega (arith, four_lines s.down c.two, c.high)) c.deep

-- ---- bands

-- a band's rows, with a function of each entry
abbrev entries : (ℤ → ℤ) → Header → Rows → ℕ → ℕ → ℕ → ℕ → ℤ
entries f h rows component number row column = f (rows (band_number h number component) row column)

band_same : (f : ℤ → ℤ) (h : Header) (rows other : Rows) (component number width height : ℕ) → h.nly ≤ h.nlx → SameRowsWithin h rows other → component < components_of h.shape.format
    → number < band_count (split_of h component) → IsBandSize (split_of h component) number width height
    → SamePlanes width height (entries f h rows component number) (entries f h other component number)
band_same f h rows other component number width height deep same there inside size row column above within =
    ap f (same (band_number h number component) row column (number_below h number component deep there inside)
    (omega (arith, above, size.rows_are, height_of_number h number component there)) (omega (arith, within, size.columns_are, width_of_number h number component there)))

pub hl_size : (s : Split) (level : ℕ) → s.down ≤ s.across → level < s.across → IsBandSize s (first_number s (level + 1)) (high_count (low_count_at s.width level)) (rows_at s (level + 1))
hl_size s level deep inside =
    let next : suc level ≡ level + 1 = omega arith in
    elim (cases_lt level s.down) [
      | inl less ↦ deep_size s (first_number s (level + 1)) (3 * (s.down - suc level) + 0) level 0 (high_count (low_count_at s.width level)) (rows_at s (level + 1)) deep
          (omega (arith, first_deep s (level + 1) (omega (arith, less)))) refl less (omega arith) refl (ap (rows_at s) (sym next) ∙ rows_deep s (suc level) (omega (arith, less)))
      | inr past ↦
          let here : level ≡ s.across - first_number s (level + 1) = omega (arith, first_wide s (level + 1) (omega (arith, past)), inside) in
          wide_size s (first_number s (level + 1)) (high_count (low_count_at s.width level)) (rows_at s (level + 1)) deep
          (omega (arith, first_wide s (level + 1) (omega (arith, past)))) (omega (arith, first_wide s (level + 1) (omega (arith, past)), inside, past))
          (ap (λ l. high_count (low_count_at s.width l)) here) (ap (rows_at s) (sym next) ∙ rows_kept s level past ∙ ap (rows_at s) here)
    ]

side_number : (s : Split) (level side : ℕ) → s.down ≤ s.across → level < s.down → first_number s (level + 1) + side ≡ s.across - s.down + 1 + (3 * (s.down - suc level) + side)
side_number s level side deep less = omega (arith, first_deep s (level + 1) (omega (arith, less)))

pub lh_size : (s : Split) (level : ℕ) → s.down ≤ s.across → level < s.down
    → IsBandSize s (first_number s (level + 1) + 1) (low_count (low_count_at s.width level)) (high_count (low_count_at s.height level))
lh_size s level deep less =
    deep_size s (first_number s (level + 1) + 1) (3 * (s.down - suc level) + 1) level 1 (low_count (low_count_at s.width level)) (high_count (low_count_at s.height level)) deep
    (side_number s level 1 deep less) refl less (omega arith) refl refl

pub hh_size : (s : Split) (level : ℕ) → s.down ≤ s.across → level < s.down
    → IsBandSize s (first_number s (level + 1) + 2) (high_count (low_count_at s.width level)) (high_count (low_count_at s.height level))
hh_size s level deep less =
    deep_size s (first_number s (level + 1) + 2) (3 * (s.down - suc level) + 2) level 2 (high_count (low_count_at s.width level)) (high_count (low_count_at s.height level)) deep
    (side_number s level 2 deep less) refl less (omega arith) refl refl

pub hl_room : (s : Split) (level : ℕ) → s.down ≤ s.across → level < s.across → first_number s (level + 1) < band_count s
hl_room s level deep inside =
    elim (cases_lt level s.down) [
      | inl less ↦ omega (arith, first_next s level, room_deep s level deep less)
      | inr past ↦ omega (arith, first_next s level, room_wide s level deep past inside)
    ]

-- the bands of a component are the same where they are
pub bands_same : (f : ℤ → ℤ) (h : Header) (rows other : Rows) (component : ℕ) → h.nly ≤ h.nlx → SameRowsWithin h rows other → component < components_of h.shape.format
    → SameBandsWithin (split_of h component) (each_entry f (component_bands h rows component)) (each_entry f (component_bands h other component))
bands_same f h rows other component deep same there =
    let s = split_of h component in
    record {
      ll = band_same f h rows other component 0 (low_count_at s.width s.across) (rows_at s s.across) deep same there (omega (arith, all_counted s deep))
          (lowest_size s (low_count_at s.width s.across) (rows_at s s.across) deep refl refl);
      hl = λ level inside. band_same f h rows other component (first_number s (level + 1)) (high_count (low_count_at s.width level)) (rows_at s (level + 1)) deep same there (hl_room s level deep inside) (hl_size s level deep inside);
      lh = λ level inside. band_same f h rows other component (first_number s (level + 1) + 1) (low_count (low_count_at s.width level)) (high_count (low_count_at s.height level)) deep same there
          (omega (arith, first_next s level, room_deep s level deep inside)) (lh_size s level deep inside);
      hh = λ level inside. band_same f h rows other component (first_number s (level + 1) + 2) (high_count (low_count_at s.width level)) (high_count (low_count_at s.height level)) deep same there
          (omega (arith, first_next s level, room_deep s level deep inside)) (hh_size s level deep inside);
    }

-- ---- pictures

-- the bands of each component at full precision
abbrev pub raised : Header → Rows → ℕ → Bands
raised h rows component = each_entry (λ z. z *ℤ pos (2 ^ h.fq)) (component_bands h rows component)

pub planes_same : (h : Header) (rows other : Rows) (component row column : ℕ) → IsAccepted h → SameRowsWithin h rows other → IsPlace h.shape component row column
    → synthesised (signal_of h) (raised h rows) component row column ≡ synthesised (signal_of h) (raised h other) component row column
planes_same h rows other component row column accepted same place =
    let there = place.row_there.component_there in
    transforms_within.joined (split_of h component) (raised h rows component) (raised h other component) (component_splits (split_of h component) (accepted_component h component accepted there))
    (bands_same (λ z. z *ℤ pos (2 ^ h.fq)) h rows other component (omega (arith, accepted.geometry.nly)) same there) row column place.row_there.row_there place.column_there

-- all components of such a format are as wide as the picture
pub full_width : (shape : Shape) (component : ℕ) → shape.format ≡ C444 → width_of shape component ≡ shape.width
full_width shape component full = ap (λ f. component_width_of f shape.width component) full ∙ each (nat_eq component 0)
  where
    each : (first : Bool) → ceil_div shape.width (if first then 1 else 1) ≡ shape.width
    each true = omega arith
    each false = omega arith

colour_place : (h : Header) (component other row column : ℕ) → h.shape.format ≡ C444 → other < 3 → IsPlace h.shape component row column → IsPlace h.shape other row column
colour_place h component other row column full less place = record {
  row_there = record { component_there = subst (λ f. other < components_of f) (sym full) less; row_there = place.row_there.row_there };
  column_there = subst (λ w. column < w) (full_width h.shape component full ∙ sym (full_width h.shape other full)) place.column_there;
}

turned_same : (h : Header) (rows other : Rows) (component row column : ℕ) (colour : Bool) → h.colour ≡ colour → IsAccepted h → SameRowsWithin h rows other → IsPlace h.shape component row column
    → (if colour then uncoloured (synthesised (signal_of h) (raised h rows)) else synthesised (signal_of h) (raised h rows)) component row column
    ≡ (if colour then uncoloured (synthesised (signal_of h) (raised h other)) else synthesised (signal_of h) (raised h other)) component row column
turned_same h rows other component row column true is accepted same place =
    let full = accepted.colour is in
    let p = synthesised (signal_of h) (raised h rows) in
    let q = synthesised (signal_of h) (raised h other) in
    let at : (c : ℕ) → c < 3 → p c row column ≡ q c row column = λ c less. planes_same h rows other c row column accepted same (colour_place h component c row column full less place) in
    ap (λ y. one_of (unrct y (p 1 row column) (p 2 row column)) component) (at 0 (omega arith))
    ∙ ap (λ u. one_of (unrct (q 0 row column) u (p 2 row column)) component) (at 1 (omega arith))
    ∙ ap (λ v. one_of (unrct (q 0 row column) (q 1 row column) v) component) (at 2 (omega arith))
turned_same h rows other component row column false is accepted same place = planes_same h rows other component row column accepted same place

pub decoded_within : DecodedWithin
decoded_within h rows other component row column accepted same place =
    ap (scale_out h.shape.depth h.bw) (turned_same h rows other component row column h.colour refl accepted same place)
