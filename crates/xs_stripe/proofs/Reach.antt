-- The lines of a slice need no rows but its own and those of the edges beside it.
use Rattle.std.proofs.Common.{◌≡◌, ℕ, zero, suc, ◌+◌, ◌-◌, ◌*◌, ◌/◌, ◌%◌, ◌^◌, ◌<◌, ◌≤◌, List, length, Bool, true, false, Option, None, Some, refl, ap, sym, subst, ◌∙◌, arith, inl, inr}
use Rattle.std.specs.Prelude.{MatchOption}
use Rattle.std.specs.Borrow.{Bor}
use Rattle.std.proofs.Math.Nat.{div-lt_iff_lt-mul, mul-le-mul, mul-le-mul_left, lt-mul-div-succ}
use Rattle.std.proofs.lemmas.Bool.{cases_lt, true≢false}
use Rattle.std.proofs.lemmas.Nat.{pow_pos}
use Rattle.xs_layout.specs.declared.Format.{Format}
use Rattle.xs_layout.specs.declared.Format.TheVariants.{Mono, C422, C444}
use Rattle.xs_layout.specs.Geometry.{BandType, components_of, side_size, precinct_count_of}
use Rattle.xs_params.specs.declared.header.Header.{Header}
use Rattle.xs_params.specs.Geometry.{bands_of, band_type_of, band_width_of, band_height_of, precinct_lines, precinct_count, slice_count}
use Rattle.xs_params.specs.Accepted.{IsAccepted}
use Rattle.xs_signal.specs.Wavelet.{Split}
use Rattle.xs_geometry.specs.SliceLines.{BandLines, lines_at, AreLinesOf, first_line_of, end_line_of, slice_height}
use Rattle.xs_wave.specs.Bands.{band_count, first_number, type_at}
use Rattle.xs_wave.proofs.Types.{deep_side, all_counted, first_type, first_wide, first_deep, wide_type, deep_type}
use Rattle.xs_stripe.specs.Source.{IsBandRow, HaveRows, HaveRowsAbove}
use Rattle.xs_stripe.specs.Joined.{component_split}
use Rattle.xs_stripe.specs.Edges.{AreSmallRows, IsDownEdge, IsUpEdge}
use Rattle.xs_stripe.specs.Near.{row_in, near_rows}
use Rattle.xs_stripe.specs.declared.edges.Edge.{Edge}
use Rattle.xs_stripe.proofs.Steps.{slice_inside}
use Rattle.xs_stripe.proofs.Edged.{band_row, line_there}
use Rattle.xs_stripe.proofs.Beside.{near_inside, near_above, near_body, near_below}

-- ---- the types of bands

pub record IsBandType (nly : ℕ) (t : BandType) : Type 0 where
  pub deep : t.down ≤ nly
  pub some : t.high_down ≡ true → 1 ≤ t.down

deep_known : (nly level side : ℕ) → level < nly → side < 3 → IsBandType nly (deep_side (suc level) side)
deep_known nly level zero less few = record { deep = omega (arith, less); some = λ high. omega arith }
deep_known nly level (suc zero) less few = record { deep = omega (arith, less); some = λ high. omega arith }
deep_known nly level (suc (suc side)) less few = record { deep = omega (arith, less); some = λ high. omega arith }

type_known : (s : Split) (number : ℕ) → s.down ≤ s.across → number < band_count s → IsBandType s.down (type_at s number)
type_known s zero deep inside = subst (IsBandType s.down) (sym (first_type s)) (record { deep = omega arith; some = λ high. absurd (true≢false (sym high)) })
type_known s (suc before) deep inside =
    let all = all_counted s deep in
    elim (cases_lt before (s.across - s.down)) [
      | inl less ↦
          let level = s.across - suc before in
          let from : s.down ≤ level = omega (arith, less) in
          let to : level < s.across = omega (arith, less) in
          let here : first_number s (suc level) ≡ suc before = omega (arith, first_wide s (suc level) (omega (arith, less)), less) in
          subst (λ k. IsBandType s.down (type_at s k)) here (subst (IsBandType s.down) (sym (wide_type s level from to)) (record { deep = omega arith; some = λ high. absurd (true≢false (sym high)) }))
      | inr past ↦
          let rest = before - (s.across - s.down) in
          let level = s.down - suc (rest / 3) in
          let side = rest % 3 in
          let less : level < s.down = omega (arith, inside, all, past) in
          let few : side < 3 = omega arith in
          let here : first_number s (suc level) + side ≡ suc before = omega (arith, first_deep s (suc level) (omega (arith, less)), inside, all, past, deep) in
          subst (λ k. IsBandType s.down (type_at s k)) here (subst (IsBandType s.down) (sym (deep_type s level side deep less few)) (deep_known s.down level side less few))
    ]

number_inside : (f : Format) (band types : ℕ) → band < types * components_of f → band / components_of f < types
number_inside Mono band types inside = omega (arith, inside)
number_inside C422 band types inside = omega (arith, inside)
number_inside C444 band types inside = omega (arith, inside)

pub band_known : (h : Header) (band : ℕ) → h.nly ≤ h.nlx → band < bands_of h → IsBandType h.nly (band_type_of h band)
band_known h band deep inside =
    let s = component_split h 0 in
    type_known s (band / components_of h.shape.format) deep (omega (arith, number_inside h.shape.format band (2 * h.nly + h.nlx + 1) inside, all_counted s deep))

-- ---- heights

low_most : (nly down height : ℕ) → nly ≤ 2 → down ≤ nly → side_size height down false ≤ 2 ^ (nly - down) * precinct_count_of height nly
low_most zero zero height few deep = omega arith
low_most (suc zero) zero height few deep = omega arith
low_most (suc zero) (suc zero) height few deep = omega arith
low_most (suc (suc zero)) zero height few deep = omega arith
low_most (suc (suc zero)) (suc zero) height few deep = omega arith
low_most (suc (suc zero)) (suc (suc zero)) height few deep = omega arith
low_most (suc (suc (suc nly))) down height few deep = absurd (omega (arith, few))
low_most zero (suc down) height few deep = absurd (omega (arith, deep))
low_most (suc zero) (suc (suc down)) height few deep = absurd (omega (arith, deep))
low_most (suc (suc zero)) (suc (suc (suc down))) height few deep = absurd (omega (arith, deep))

high_most : (nly down height : ℕ) → nly ≤ 2 → 1 ≤ down → down ≤ nly → side_size height down true ≤ 2 ^ (nly - down) * precinct_count_of height nly
high_most nly zero height few some deep = absurd (omega (arith, some))
high_most (suc zero) (suc zero) height few some deep = omega arith
high_most (suc (suc zero)) (suc zero) height few some deep = omega arith
high_most (suc (suc zero)) (suc (suc zero)) height few some deep = omega arith
high_most (suc (suc (suc nly))) (suc down) height few some deep = absurd (omega (arith, few))
high_most zero (suc down) height few some deep = absurd (omega (arith, deep))
high_most (suc zero) (suc (suc down)) height few some deep = absurd (omega (arith, deep))
high_most (suc (suc zero)) (suc (suc (suc down))) height few some deep = absurd (omega (arith, deep))

side_most : (nly down height : ℕ) (high : Bool) → nly ≤ 2 → down ≤ nly → (high ≡ true → 1 ≤ down) → side_size height down high ≤ 2 ^ (nly - down) * precinct_count_of height nly
side_most nly down height true few deep some = high_most nly down height few (some refl) deep
side_most nly down height false few deep some = low_most nly down height few deep

high_least : (nly down height first : ℕ) → nly ≤ 2 → 1 ≤ down → down ≤ nly → 2 ^ nly * first < height → 2 ^ (nly - down) * first ≤ side_size height down true
high_least nly zero height first few some deep less = absurd (omega (arith, some))
high_least (suc zero) (suc zero) height first few some deep less = omega (arith, less)
high_least (suc (suc zero)) (suc zero) height first few some deep less = omega (arith, less)
high_least (suc (suc zero)) (suc (suc zero)) height first few some deep less = omega (arith, less)
high_least (suc (suc (suc nly))) (suc down) height first few some deep less = absurd (omega (arith, few))
high_least zero (suc down) height first few some deep less = absurd (omega (arith, deep))
high_least (suc zero) (suc (suc down)) height first few some deep less = absurd (omega (arith, deep))
high_least (suc (suc zero)) (suc (suc (suc down))) height first few some deep less = absurd (omega (arith, deep))

-- ---- the rows that the lines of a slice need

ceil_most : (n d q : ℕ) → 1 ≤ d → q ≡ (n + d - 1) / d → n ≤ q * d
ceil_most n d q some is =
    let less : n + d - 1 < d * ((n + d - 1) / d + 1) = lt-mul-div-succ (n + d - 1) (omega (arith, some)) in
    let same : d * ((n + d - 1) / d + 1) ≡ q * d + d = ap (λ k. d * (k + 1)) (sym is) ∙ omega arith in
    omega (arith, less, same, some)

some_lines : (h : Header) (band : ℕ) → 1 ≤ h.hsl → 1 ≤ slice_height h band
some_lines h band some =
    let line : 1 ≤ precinct_lines h band = omega (arith, pow_pos (h.nly - (band_type_of h band).down)) in
    let both : 1 * 1 ≤ h.hsl * precinct_lines h band = mul-le-mul some line in
    omega (arith, both)

below_has : (h : Header) (slice band line : ℕ) (below : Option (Bor Edge)) → IsAccepted h → band < bands_of h → line < band_height_of h band → line ≡ (slice + 1) * slice_height h band
    → MatchOption below (slice + 1 ≡ slice_count h) (λ edge. (slice + 1 < slice_count h) × IsUpEdge h (slice + 1) edge.now) → IsBandRow (band_width_of h band) (row_in below band)
below_has h slice band line None accepted inside top at is =
    let t = band_known h band (omega (arith, accepted.geometry.nly)) inside in
    let lines = precinct_lines h band in
    let most : band_height_of h band ≤ lines * precinct_count h = side_most h.nly (band_type_of h band).down h.shape.height (band_type_of h band).high_down (omega (arith, accepted.geometry.nly)) t.deep t.some in
    let all : precinct_count h ≤ (slice + 1) * h.hsl = ceil_most (precinct_count h) h.hsl (slice + 1) accepted.geometry.hsl is in
    let last : lines * precinct_count h ≤ lines * ((slice + 1) * h.hsl) = mul-le-mul_left lines all in
    let same : lines * ((slice + 1) * h.hsl) ≡ (slice + 1) * slice_height h band = omega arith in
    absurd (omega (arith, most, last, same, at, top))
below_has h slice band line (Some edge) accepted inside top at is =
    let some = some_lines h band accepted.geometry.hsl in
    let next : (slice + 1 + 1) * slice_height h band ≡ (slice + 1) * slice_height h band + slice_height h band = omega arith in
    is.1.there band (inside, omega (arith, some, next, at, top))

pub near_have : (h : Header) (slice given : ℕ) (above : Option (Bor Edge)) (body : List BandLines) (below : Option (Bor Edge)) → IsAccepted h → AreLinesOf h slice body → AreSmallRows body
    → MatchOption below (slice + 1 ≡ slice_count h) (λ edge. (slice + 1 < slice_count h) × IsUpEdge h (slice + 1) edge.now) → given < 2 ^ h.nly * ((slice + 1) * h.hsl) → HaveRows h (slice * h.hsl) (given / 2 ^ h.nly + 1) (near_rows above body below)
near_have h slice given above body below accepted lines small is room band line inside top from to =
    let each = precinct_lines h band in
    let end = (slice + 1) * h.hsl in
    let turned : 2 ^ h.nly * end ≡ end * 2 ^ h.nly = omega arith in
    let part : given / 2 ^ h.nly < end = (div-lt_iff_lt-mul (pow_pos h.nly)).1 (omega (arith, room, turned)) in
    let most : line ≤ each * end = omega (arith, to, mul-le-mul_left each part) in
    let start : each * (slice * h.hsl) ≡ slice * slice_height h band = omega arith in
    let stop : each * end ≡ (slice + 1) * slice_height h band = omega arith in
    let there : band < length body = omega (arith, inside, lines.count) in
    let begins : first_line_of h slice band ≤ line = omega (arith, from, start) in
    elim (cases_lt line (end_line_of h slice band)) [
      | inl less ↦
          let has = line_there h slice body band line lines inside begins less in
          subst (IsBandRow (band_width_of h band)) (sym (near_inside above body below band line there ∙ near_body above (lines_at body band) below band line has.from has.line_there)) (band_row h slice body band line lines small has)
      | inr past ↦
          let at : line ≡ (slice + 1) * slice_height h band = omega (arith, past, most, stop, top) in
          let last : line ≡ (lines_at body band).first + length (lines_at body band).rows = omega (arith, at, top, lines.first band inside, lines.lines band inside) in
          subst (IsBandRow (band_width_of h band)) (sym (near_inside above body below band line there ∙ near_below above (lines_at body band) below band line last)) (below_has h slice band line below accepted inside top at is)
    ]

above_has : (h : Header) (slice band line : ℕ) (above : Option (Bor Edge)) → IsAccepted h → band < bands_of h → (band_type_of h band).high_down ≡ true → line + 1 ≡ slice * slice_height h band → slice * slice_height h band ≤ band_height_of h band
    → MatchOption above (slice ≡ 0) (λ edge. (0 < slice) × IsDownEdge h (slice - 1) edge.now) → IsBandRow (band_width_of h band) (row_in above band)
above_has h slice band line None accepted inside high at top is = let none : slice * slice_height h band ≡ 0 = ap (λ n. n * slice_height h band) is ∙ omega arith in absurd (omega (arith, none, at))
above_has h slice band line (Some edge) accepted inside high at top is =
    let some = some_lines h band accepted.geometry.hsl in
    let next : slice - 1 + 1 ≡ slice = omega (arith, is.0) in
    let whole : (slice - 1 + 1) * slice_height h band ≡ slice * slice_height h band = ap (λ n. n * slice_height h band) next in
    let more : (slice - 1 + 1) * slice_height h band ≡ (slice - 1) * slice_height h band + slice_height h band = omega arith in
    is.1.there band ((inside, omega (arith, some, whole, more, top)), high)

pub near_have_above : (h : Header) (slice : ℕ) (above : Option (Bor Edge)) (body : List BandLines) (below : Option (Bor Edge)) → IsAccepted h → slice < slice_count h → AreLinesOf h slice body
    → MatchOption above (slice ≡ 0) (λ edge. (0 < slice) × IsDownEdge h (slice - 1) edge.now) → HaveRowsAbove h (slice * h.hsl) (near_rows above body below)
near_have_above h slice above body below accepted slice_there lines is band line inside high at =
    let each = precinct_lines h band in
    let t = band_known h band (omega (arith, accepted.geometry.nly)) inside in
    let start : each * (slice * h.hsl) ≡ slice * slice_height h band = omega arith in
    let least : each * (slice * h.hsl) ≤ side_size h.shape.height (band_type_of h band).down true = high_least h.nly (band_type_of h band).down h.shape.height (slice * h.hsl) (omega (arith, accepted.geometry.nly)) (t.some high) t.deep (slice_inside h slice accepted slice_there) in
    let top : slice * slice_height h band ≤ band_height_of h band = subst (λ d. slice * slice_height h band ≤ side_size h.shape.height (band_type_of h band).down d) (sym high) (omega (arith, least, start)) in
    let first : line + 1 ≡ (lines_at body band).first = omega (arith, at, start, top, lines.first band inside) in
    subst (IsBandRow (band_width_of h band)) (sym (near_inside above body below band line (omega (arith, inside, lines.count)) ∙ near_above above (lines_at body band) below band line first))
    (above_has h slice band line above accepted inside high (omega (arith, at, start)) top is)
