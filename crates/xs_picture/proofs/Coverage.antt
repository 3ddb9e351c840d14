-- Each line of a band is one of the lines of a slice.
use Rattle.std.proofs.Common.{◌≡◌, ℕ, zero, suc, ◌+◌, ◌-◌, ◌*◌, ◌/◌, ◌%◌, ◌^◌, ◌<◌, ◌≤◌, List, [], length, get_or, refl, ap, ◌∙◌, arith, inl, inr, Bool, true, false}
use Rattle.std.proofs.Math.Nat.{mul-le-mul_right, mul_assoc, le-div_iff_mul-le}
use Rattle.std.proofs.lemmas.Bool.{cases_lt}
use Rattle.std.proofs.lemmas.List.{get_or_past}
use Rattle.std.specs.Prelude.{ℤ}
use Rattle.std.proofs.lemmas.Nat.{pow_pos}
use Rattle.xs_layout.specs.declared.Format.{Format}
use Rattle.xs_layout.specs.declared.Format.TheVariants.{Mono, C422, C444}
use Rattle.xs_layout.specs.Geometry.{BandType, band_types, components_of, side_size, ceil_div, ll}
use Rattle.xs_params.specs.declared.header.Header.{Header}
use Rattle.xs_params.specs.Geometry.{bands_of, band_type_of, band_height_of, band_width_of, precinct_count, precinct_lines, slice_count}
use Rattle.xs_params.specs.Accepted.{IsAccepted}
use Rattle.xs_geometry.specs.SliceLines.{AreLinesOf, BandLines, HasLine, lines_at, no_lines, row_at, slice_height}
use Rattle.xs_geometry.specs.Sides.{deep_side}
use Rattle.xs_geometry.proofs.Types.{wide_type, deep_type}
use Rattle.xs_stripe.specs.Source.{IsBandRow}
use Rattle.xs_picture.specs.Coefs.{Coefs, AreCoefs, row_of_slices}

-- ---- heights

deep_down : (level side : ℕ) → (deep_side level side).down ≡ level
deep_down level zero = omega arith
deep_down level (suc zero) = omega arith
deep_down level (suc (suc side)) = omega arith

-- no band is split further down than the picture
down_most : (nlx nly number : ℕ) → nly ≤ nlx → number < 2 * nly + nlx + 1 → (get_or (band_types nlx nly) number (ll 0 0)).down ≤ nly
down_most nlx nly zero deep inside = omega arith
down_most nlx nly (suc before) deep inside =
    elim (cases_lt before (nlx - nly)) [
      | inl wide ↦ omega (arith, ap (λ (t : BandType). t.down) (wide_type nlx nly (suc before) (omega arith) (omega (arith, wide))))
      | inr past ↦
          let rest = before - (nlx - nly) in
          let level = nly - rest / 3 in
          let here : suc before ≡ nlx - nly + 1 + (3 * (rest / 3) + rest % 3) = omega (arith, past) in
          let less : rest / 3 < nly = omega (arith, inside, past, deep) in
          let low : rest % 3 < 3 = omega arith in
          omega (arith, ap (λ (t : BandType). t.down) (deep_type nlx nly (suc before) (rest / 3) (rest % 3) here less low), deep_down level (rest % 3))
    ]

-- as many whole precincts as there are have all lines of a band
side_most : (height down nly : ℕ) (high : Bool) → down ≤ nly → nly ≤ 2 → side_size height down high ≤ ceil_div height (2 ^ nly) * 2 ^ (nly - down)
side_most height zero zero true low few = omega arith
side_most height zero zero false low few = omega arith
side_most height zero (suc zero) true low few = omega arith
side_most height zero (suc zero) false low few = omega arith
side_most height zero (suc (suc zero)) true low few = omega arith
side_most height zero (suc (suc zero)) false low few = omega arith
side_most height (suc zero) zero high low few = absurd (omega (arith, low))
side_most height (suc zero) (suc zero) true low few = omega arith
side_most height (suc zero) (suc zero) false low few = omega arith
side_most height (suc zero) (suc (suc zero)) true low few = omega arith
side_most height (suc zero) (suc (suc zero)) false low few = omega arith
side_most height (suc (suc zero)) zero high low few = absurd (omega (arith, low))
side_most height (suc (suc zero)) (suc zero) high low few = absurd (omega (arith, low))
side_most height (suc (suc zero)) (suc (suc zero)) true low few = omega arith
side_most height (suc (suc zero)) (suc (suc zero)) false low few = omega arith
side_most height (suc (suc (suc down))) nly high low few = absurd (omega (arith, low, few))
side_most height down (suc (suc (suc nly))) high low few = absurd (omega (arith, few))

number_inside : (f : Format) (types band : ℕ) → band < types * components_of f → band / components_of f < types
number_inside Mono types band inside = omega (arith, inside)
number_inside C422 types band inside = omega (arith, inside)
number_inside C444 types band inside = omega (arith, inside)

height_most : (h : Header) (band : ℕ) → IsAccepted h → band < bands_of h → band_height_of h band ≤ precinct_count h * precinct_lines h band
height_most h band accepted inside =
    side_most h.shape.height (band_type_of h band).down h.nly (band_type_of h band).high_down
    (down_most h.nlx h.nly (band / components_of h.shape.format) (omega (arith, accepted.geometry.nly)) (number_inside h.shape.format (2 * h.nly + h.nlx + 1) band inside)) (omega (arith, accepted.geometry.nly))

-- ---- slices

pub ceil_covers : (n d : ℕ) → 1 ≤ d → n ≤ ceil_div n d * d
ceil_covers n d some = omega (arith, some)

pub quotient_below : (n d q : ℕ) → 0 < d → n < q * d → n / d < q
quotient_below n d q some less =
    elim (cases_lt (n / d) q) [
      | inl below ↦ below
      | inr past ↦ absurd (omega (arith, less, (le-div_iff_mul-le some).0 past))
    ]

pub lines_some : (h : Header) (band : ℕ) → IsAccepted h → 0 < slice_height h band
lines_some h band accepted = product h.hsl (precinct_lines h band) accepted.geometry.hsl (pow_pos (h.nly - (band_type_of h band).down))
  where
    product : (m n : ℕ) → 1 ≤ m → 0 < n → 0 < m * n
    product (suc m) n some more = omega (arith, more)
    product zero n some more = absurd (omega (arith, some))

-- each line of a band lies in a slice
pub slice_there : (h : Header) (band line : ℕ) → IsAccepted h → band < bands_of h → line < band_height_of h band → line / slice_height h band < slice_count h
slice_there h band line accepted inside less =
    let covers : precinct_count h * precinct_lines h band ≤ slice_count h * h.hsl * precinct_lines h band = mul-le-mul_right (precinct_lines h band) (ceil_covers (precinct_count h) h.hsl accepted.geometry.hsl) in
    let grouped : slice_count h * h.hsl * precinct_lines h band ≡ slice_count h * slice_height h band = mul_assoc (slice_count h) h.hsl (precinct_lines h band) in
    quotient_below line (slice_height h band) (slice_count h) (lines_some h band accepted) (omega (arith, less, height_most h band accepted inside, covers, grouped))

-- and the rows of that slice have it
pub line_in_slice : (h : Header) (slice : ℕ) (rows : List BandLines) (band line : ℕ) → IsAccepted h → AreLinesOf h slice rows → band < bands_of h → line < band_height_of h band
    → line / slice_height h band ≡ slice → HasLine rows band line
line_in_slice h slice rows band line accepted lines inside less here =
    let some = lines_some h band accepted in
    let from : line / slice_height h band * slice_height h band ≤ line = omega arith in
    let to : line < (line / slice_height h band + 1) * slice_height h band = omega (arith, some) in
    let first : slice * slice_height h band ≤ line = rw here at from in
    let end : line < (slice + 1) * slice_height h band = rw here at to in
    record {
      band_there = omega (arith, inside, lines.count);
      from = omega (arith, lines.first band inside, first);
      line_there = omega (arith, lines.first band inside, lines.lines band inside, end, less);
    }

pub line_there : (c : Coefs) (band line : ℕ) → AreCoefs c → band < bands_of c.header → line < band_height_of c.header band
    → HasLine (get_or c.slices (line / slice_height c.header band) []) band line
line_there c band line are inside less =
    let slice = line / slice_height c.header band in
    line_in_slice c.header slice (get_or c.slices slice []) band line are.accepted (are.lines slice (slice_there c.header band line are.accepted inside less)) inside less refl

-- of the band's width
pub row_width : (c : Coefs) (band line : ℕ) → AreCoefs c → band < bands_of c.header → line < band_height_of c.header band
    → length (row_at (get_or c.slices (line / slice_height c.header band) []) band line) ≡ band_width_of c.header band
row_width c band line are inside less =
    (are.lines (line / slice_height c.header band) (slice_there c.header band line are.accepted inside less)).width band line (line_there c band line are inside less)

-- a row that has numbers stands in its slice
pub known_there : (c : Coefs) (band line : ℕ) → AreCoefs c → 0 < length (row_of_slices c.header c.slices band line)
    → (band < bands_of c.header) × HasLine (get_or c.slices (line / slice_height c.header band) []) band line
known_there c band line are some = elim (cases_lt slice (length c.slices)) [
  | inl less ↦ elim (cases_lt band (bands_of c.header)) [
    | inl inside ↦ elim (cases_lt (line - (lines_at bands band).first) (length (lines_at bands band).rows)) [
      | inl there ↦ (inside, here (are.lines slice (omega (arith, less, are.count))) inside there)
      | inr past ↦ absurd (omega (arith, some, ap length (get_or_past (lines_at bands band).rows (line - (lines_at bands band).first) [] past)))
    ]
    | inr past ↦ absurd (omega (arith, some, nothing bands (omega (arith, past, (are.lines slice (omega (arith, less, are.count))).count))))
  ]
  | inr past ↦ absurd (omega (arith, some, ap (λ b. length (row_at b band line)) (get_or_past c.slices slice [] past), nothing [] (zero_least band)))
]
  where
    slice : ℕ
    slice = line / slice_height c.header band

    bands : List BandLines
    bands = get_or c.slices slice []

    zero_least : (n : ℕ) → 0 ≤ n
    zero_least n = omega arith

    -- a band that is not there has no rows
    nothing : (b : List BandLines) → length b ≤ band → length {A = ℤ} (row_at b band line) ≡ 0
    nothing b past = ap (λ (l : BandLines). length {A = ℤ} (get_or l.rows (line - l.first) [])) (get_or_past b band no_lines past) ∙ ap (length {A = ℤ}) (get_or_past {X = List ℤ} [] line [] (zero_least line))

    here : AreLinesOf c.header slice bands → band < bands_of c.header → line - (lines_at bands band).first < length (lines_at bands band).rows → HasLine bands band line
    here lines inside there =
        let from : slice * slice_height c.header band ≤ line = omega arith in
        let first : (lines_at bands band).first ≤ line = omega (arith, lines.first band inside, from) in
        record { band_there = omega (arith, inside, lines.count); from = first; line_there = omega (arith, there, first) }

-- the rows that are there are those of the bands
pub row_of_band : (c : Coefs) (band line : ℕ) → AreCoefs c → band < bands_of c.header → line < band_height_of c.header band → IsBandRow (band_width_of c.header band) (row_of_slices c.header c.slices band line)
row_of_band c band line are inside less = record {
  wide = row_width c band line are inside less;
  small = are.small (line / slice_height c.header band) (slice_there c.header band line are.accepted inside less) band line (line_there c band line are inside less);
}
