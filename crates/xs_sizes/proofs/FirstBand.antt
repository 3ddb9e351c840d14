-- The lines of the first band are the precincts.
use Rattle.std.proofs.Common.{◌≡◌, ℕ, ◌+◌, ◌-◌, ◌*◌, ◌/◌, ◌^◌, ◌<◌, ◌≤◌, min, sym, ap, ◌∙◌, arith}
use Rattle.std.specs.List.{Contains}
use Rattle.xs_layout.specs.declared.Format.{Format}
use Rattle.xs_layout.specs.declared.Format.TheVariants.{Mono, C422, C444}
use Rattle.xs_layout.specs.Geometry.{components_of}
use Rattle.xs_params.specs.declared.header.Header.{Header}
use Rattle.xs_params.specs.Geometry.{bands_of, band_height_of, precinct_count, precinct_lines, precincts_of}
use Rattle.xs_geometry.specs.SliceLines.{first_line_of, end_line_of, slice_height}
use Rattle.xs_geometry.proofs.PlaceFacts.{first_band, first_height, in_range, lines_in, range_has, type_at}

pub some_bands : (h : Header) → 1 ≤ bands_of h
some_bands h = cases h.shape.format (2 * h.nly + h.nlx)
  where
    cases : (format : Format) (n : ℕ) → 1 ≤ (n + 1) * components_of format
    cases Mono n = omega arith
    cases C422 n = omega arith
    cases C444 n = omega arith

precincts_high : (h : Header) → band_height_of h 0 ≡ precinct_count h
precincts_high h = let none : 0 * components_of h.shape.format ≡ 0 = omega arith in ap (band_height_of h) (sym none) ∙ first_height h 0

one_line : (h : Header) → precinct_lines h 0 ≡ 1
one_line h =
    let zero : 0 * components_of h.shape.format ≡ 0 = omega arith in
    let none : h.nly - h.nly ≡ 0 = omega arith in
    ap (λ n. lines_in h (type_at h (n / components_of h.shape.format))) (sym zero) ∙ ap (λ type. lines_in h (type_at h type)) (first_band h.shape.format 0) ∙ ap (λ k. 2 ^ k) none

whole_slice : (h : Header) (slice : ℕ) → slice * slice_height h 0 ≡ slice * h.hsl
whole_slice h slice = let one : h.hsl * 1 ≡ h.hsl = omega arith in ap (λ k. slice * (h.hsl * k)) (one_line h) ∙ ap (λ k. slice * k) one

-- each of them is a precinct of the slice
pub line_precinct : (h : Header) (slice precinct : ℕ) → first_line_of h slice 0 ≤ precinct → precinct < end_line_of h slice 0 → Contains (precincts_of h slice) precinct × (precinct < precinct_count h)
line_precinct h slice precinct low high =
    let first = whole_slice h slice in
    let end = whole_slice h (slice + 1) in
    let all = precincts_high h in
    (in_range (slice * h.hsl) (min ((slice + 1) * h.hsl) (precinct_count h) - slice * h.hsl) precinct (omega (arith, low, high, first, end, all)) (omega (arith, low, high, first, end, all)), omega (arith, high, all))

-- each precinct of the slice is one of them
pub precinct_line : (h : Header) (slice precinct : ℕ) → Contains (precincts_of h slice) precinct → (first_line_of h slice 0 ≤ precinct) × (precinct < end_line_of h slice 0)
precinct_line h slice precinct there =
    let known = range_has (slice * h.hsl) (min ((slice + 1) * h.hsl) (precinct_count h) - slice * h.hsl) precinct there in
    let first = whole_slice h slice in
    let end = whole_slice h (slice + 1) in
    let all = precincts_high h in
    (omega (arith, known.0, known.1, first, all), omega (arith, known.0, known.1, end, all))
