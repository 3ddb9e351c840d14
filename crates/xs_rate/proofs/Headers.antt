-- Sizes of written headers.
use Rattle.std.proofs.Common.{◌≡◌, ℕ, zero, suc, ◌+◌, ◌*◌, ◌≤◌, List, [], ◌∷◌, ◌++◌, length, refl, ap, ◌∙◌, arith, length-append}
use Rattle.std.specs.List.{flat_map}
use Rattle.xs_lists.specs.Bits.{bytes_for}
use Rattle.xs_lists.specs.Spelling.{upto}
use Rattle.xs_layout.specs.declared.Format.{Format}
use Rattle.xs_layout.specs.declared.Format.TheVariants.{Mono, C422, C444}
use Rattle.xs_layout.specs.declared.Weight.{Weight}
use Rattle.xs_layout.specs.Geometry.{components_of, sampling_of}
use Rattle.xs_params.specs.declared.header.Header.{Header}
use Rattle.xs_params.specs.declared.settings.Settings.{Settings}
use Rattle.xs_params.specs.Check.{AreInRange}
use Rattle.xs_params.specs.Headers.{header_of}
use Rattle.xs_params.proofs.HeaderWeights.{header_weights}
use Rattle.xs_params.specs.Geometry.{bands_of}
use Rattle.xs_grammar.specs.Header.{Segment, segment_bytes, picture_fields, component_fields, weight_fields}
use Rattle.xs_grammar.specs.Coded.{field_bytes, header_bytes}
use Rattle.xs_grammar.proofs.Coded.{widths}
use Rattle.xs_grammar.proofs.CodedStream.{length-field_bytes}
use Rattle.xs_rate.specs.Encoding.{with_length}

pub components-few : (format : Format) → components_of format ≤ 3
components-few Mono = omega arith
components-few C422 = omega arith
components-few C444 = omega arith

pub some-bands : (s : Settings) → 1 ≤ bands_of (header_of s)
some-bands s = cases s.shape.format
  where
    cases : (format : Format) → 1 ≤ (2 * s.nly + s.nlx + 1) * components_of format
    cases Mono = omega arith
    cases C422 = omega arith
    cases C444 = omega arith

-- there are few bands
pub few-bands : (s : Settings) → AreInRange s → bands_of (header_of s) ≤ 30
few-bands s range = bound (components_of s.shape.format) (components-few s.shape.format)
  where
    bound : (n : ℕ) → n ≤ 3 → (2 * s.nly + s.nlx + 1) * n ≤ 30
    bound zero p = omega arith
    bound (suc zero) p = omega (arith, range.nlx.1, range.nly)
    bound (suc (suc zero)) p = omega (arith, range.nlx.1, range.nly)
    bound (suc (suc (suc zero))) p = omega (arith, range.nlx.1, range.nly)
    bound (suc (suc (suc (suc n)))) p = absurd (omega (arith, p))

-- Sizes of headers

length-segment : (s : Segment) → length (segment_bytes s) ≡ 4 + length s.body
length-segment s = omega arith

length-segments : (a b c d : Segment) → length (flat_map segment_bytes (a ∷ b ∷ c ∷ d ∷ [])) ≡ 16 + length a.body + length b.body + length c.body + length d.body
length-segments a b c d =
    omega (
      arith,
      length-append (segment_bytes a) (segment_bytes b ++ (segment_bytes c ++ (segment_bytes d ++ []))),
      length-append (segment_bytes b) (segment_bytes c ++ (segment_bytes d ++ [])),
      length-append (segment_bytes c) (segment_bytes d ++ []),
      length-append (segment_bytes d) [],
      length-segment a,
      length-segment b,
      length-segment c,
      length-segment d,
    )

component_widths : (format : Format) (depth : ℕ)
    → bytes_for (widths (flat_map (λ component. (8, depth) ∷ (4, sampling_of format component) ∷ (4, 1) ∷ []) (upto (components_of format)))) ≡ 2 * components_of format
component_widths Mono depth = refl
component_widths C422 depth = refl
component_widths C444 depth = refl

weight_widths : (weights : List Weight) → widths (flat_map (λ (weight : Weight). (8, weight.gain) ∷ (8, weight.priority) ∷ []) weights) ≡ 16 * length weights
weight_widths [] = refl
weight_widths (weight ∷ weights) = omega (arith, weight_widths weights)

whole_bytes : (n : ℕ) → bytes_for (16 * n) ≡ 2 * n
whole_bytes n = omega arith

pub length-header : (h : Header) → length (header_bytes h) ≡ 42 + 2 * components_of h.shape.format + 2 * length h.weights
length-header h =
    let picture : length (field_bytes (picture_fields h 0 0 0)) ≡ 24 = length-field_bytes (picture_fields h 0 0 0) in
    let component : length (field_bytes (component_fields h)) ≡ 2 * components_of h.shape.format = length-field_bytes (component_fields h) ∙ component_widths h.shape.format h.shape.depth in
    let weight : length (field_bytes (weight_fields h)) ≡ 2 * length h.weights = length-field_bytes (weight_fields h) ∙ ap bytes_for (weight_widths h.weights) ∙ whole_bytes (length h.weights) in
    omega (
      arith,
      length-segments (record { code = 0xff50; body = [] }) (record { code = 0xff12; body = field_bytes (picture_fields h 0 0 0) })
          (record { code = 0xff13; body = field_bytes (component_fields h) }) (record { code = 0xff14; body = field_bytes (weight_fields h) }),
      picture,
      component,
      weight,
    )

-- whatever length it states
pub header-size : (s : Settings) → AreInRange s → (lcod : ℕ) → length (header_bytes (with_length (header_of s) lcod)) ≡ 42 + 2 * components_of s.shape.format + 2 * bands_of (header_of s)
header-size s range lcod = omega (arith, length-header (with_length (header_of s) lcod), (header_weights s range).one_each)
