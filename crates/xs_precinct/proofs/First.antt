-- The first line of a precinct: whether it is the first of its slice, and that the line before it stands in a precinct before.
use Rattle.std.proofs.Common.{◌≡◌, ℕ, zero, suc, ◌+◌, ◌-◌, ◌*◌, ◌/◌, ◌%◌, ◌^◌, ◌<◌, ◌≤◌, inl, inr, refl, sym, ap, subst, ◌∙◌, arith}
use Rattle.std.specs.Prelude.{Bool, true, false, nat_eq}
use Rattle.std.proofs.Math.Nat.{div-add-mod', div-mul-le_self, mul-mod_left, mul_assoc}
use Rattle.std.proofs.lemmas.Bool.{cases_lt, eqb-true}
use Rattle.std.proofs.lemmas.Nat.{same_from_place}
use Rattle.xs_layout.specs.Geometry.{low_size}
use Rattle.xs_layout.proofs.Places.{types_of_band}
use Rattle.xs_params.specs.declared.header.Header.{Header}
use Rattle.xs_params.specs.Geometry.{bands_of, band_height_of, precinct_count, precinct_lines}
use Rattle.xs_params.specs.Accepted.{IsGeometry}
use Rattle.xs_geometry.proofs.PlaceFacts.{deep_lines, deep_rows, side_rows, type_number, wide_lines, wide_rows}
use Rattle.xs_grammar.specs.Precinct.{is_first_line, precinct_of}
use Rattle.xs_reading.proofs.Contents.{not_zero}
use Rattle.xs_precinct.proofs.Placed.{some_lines}

-- a first line of a slice is the first of a precinct, and the precinct is the first of a slice
first_of : (hsl lines precinct rest : ℕ) → rest < lines → (precinct * lines + rest) % (hsl * lines) ≡ 0 → (precinct % hsl ≡ 0) × (rest ≡ 0)
first_of hsl lines precinct rest inside e =
    let line = precinct * lines + rest in
    let slices = line / (hsl * lines) in
    let whole : precinct * lines + rest ≡ slices * hsl * lines + 0 = sym (div-add-mod' line (hsl * lines)) ∙ ap (λ n. slices * (hsl * lines) + n) e ∙ ap (λ n. n + 0) (sym (mul_assoc slices hsl lines)) in
    let same = same_from_place precinct rest (slices * hsl) 0 lines inside (omega (arith, inside)) whole in
    (ap (λ n. n % hsl) same.0 ∙ mul-mod_left slices hsl, same.1)

is_false : (n : ℕ) → (n ≡ 0 → ⊥) → nat_eq n 0 ≡ false
is_false n other = cases (nat_eq n 0) refl
  where
    cases : (t : Bool) → nat_eq n 0 ≡ t → t ≡ false
    cases true e = absurd (other (eqb-true n 0 e))
    cases false e = refl

-- a later line of a precinct is not the first of a slice
pub later_line : (h : Header) (precinct band line : ℕ) → precinct * precinct_lines h band < line → line < precinct * precinct_lines h band + precinct_lines h band → is_first_line h band line ≡ false
later_line h precinct band line low high =
    let lines = precinct_lines h band in
    let back : precinct * lines + (line - precinct * lines) ≡ line = omega (arith, low) in
    is_false (line % (h.hsl * lines)) (λ e.
    let both = first_of h.hsl lines precinct (line - precinct * lines) (omega (arith, low, high)) (ap (λ n. n % (h.hsl * lines)) back ∙ e) in
    omega (arith, both.1, low))

-- nor is the first line of a precinct that is not the first of its slice
pub within_slice : (h : Header) (precinct band : ℕ) → 0 < precinct % h.hsl → is_first_line h band (precinct * precinct_lines h band) ≡ false
within_slice h precinct band more =
    let lines = precinct_lines h band in
    let same : precinct * lines + 0 ≡ precinct * lines = omega arith in
    is_false (precinct * lines % (h.hsl * lines)) (λ e. omega (arith, more, (first_of h.hsl lines precinct 0 (some_lines h band) (ap (λ n. n % (h.hsl * lines)) same ∙ e)).0))

-- the line before the first one is not of the precinct
pub line_before : (h : Header) (precinct band : ℕ) → is_first_line h band (precinct * precinct_lines h band) ≡ false → precinct_of h band (precinct * precinct_lines h band - 1) ≡ precinct → ⊥
line_before h precinct band e same =
    let lines = precinct_lines h band in
    let line = precinct * lines - 1 in
    let low : precinct * lines ≤ line = subst (λ p. p * lines ≤ line) same (div-mul-le_self line lines) in
    not_zero h band (precinct * lines) e (omega (arith, low))

-- Whole precincts

deep_whole : (height nly j side precinct : ℕ) → nly ≤ 2 → j < nly → precinct + 1 < low_size height nly → (precinct + 1) * 2 ^ j ≤ side_rows height (nly - j) side
deep_whole height zero j side precinct few less more = absurd (omega (arith, less))
deep_whole height (suc zero) zero zero precinct few less more = omega (arith, more)
deep_whole height (suc zero) zero (suc side) precinct few less more = omega (arith, more)
deep_whole height (suc zero) (suc j) side precinct few less more = absurd (omega (arith, less))
deep_whole height (suc (suc zero)) zero zero precinct few less more = omega (arith, more)
deep_whole height (suc (suc zero)) zero (suc side) precinct few less more = omega (arith, more)
deep_whole height (suc (suc zero)) (suc zero) zero precinct few less more = omega (arith, more)
deep_whole height (suc (suc zero)) (suc zero) (suc side) precinct few less more = omega (arith, more)
deep_whole height (suc (suc zero)) (suc (suc j)) side precinct few less more = absurd (omega (arith, less))
deep_whole height (suc (suc (suc nly))) j side precinct few less more = absurd (omega (arith, few))

-- a precinct before the last one has all its lines
pub whole_precinct : (h : Header) (precinct band : ℕ) → IsGeometry h → band < bands_of h → precinct + 1 < precinct_count h → (precinct + 1) * precinct_lines h band ≤ band_height_of h band
whole_precinct h precinct band ranges there more = elim (cases_lt (h.nlx - h.nly) type) [
  | inr wide ↦
      let lines : precinct_lines h band ≡ 1 = wide_lines h type below (omega (arith, wide)) in
      let rows : band_height_of h band ≡ low_size h.shape.height h.nly = wide_rows h type (omega (arith, wide)) in
      let one : (precinct + 1) * 1 ≡ precinct + 1 = omega arith in
      let size = ap (λ n. (precinct + 1) * n) lines ∙ one in
      omega (arith, rows, size, more)
  | inl deep ↦
      let number = type - (h.nlx - h.nly + 1) in
      let here : type ≡ h.nlx - h.nly + 1 + (3 * (number / 3) + number % 3) = omega (arith, deep) in
      let less : number / 3 < h.nly = omega (arith, types.1, below, deep) in
      let low : number % 3 < 3 = omega arith in
      let lines : precinct_lines h band ≡ 2 ^ (number / 3) = deep_lines h type (number / 3) (number % 3) here less low in
      let rows : band_height_of h band ≡ side_rows h.shape.height (h.nly - number / 3) (number % 3) = deep_rows h type (number / 3) (number % 3) here less low in
      let whole = deep_whole h.shape.height h.nly (number / 3) (number % 3) precinct (omega (arith, ranges.nly)) less more in
      let size : (precinct + 1) * precinct_lines h band ≡ (precinct + 1) * 2 ^ (number / 3) = ap (λ n. (precinct + 1) * n) lines in
      omega (arith, rows, size, whole)
]
  where
    type : ℕ
    type = type_number h band

    below : h.nly ≤ h.nlx
    below = omega (arith, ranges.nly)

    types : (0 ≤ type) × (type < 0 + (2 * h.nly + h.nlx + 1))
    types = types_of_band h.shape.format band 0 (2 * h.nly + h.nlx + 1) (omega arith) (omega (arith, there))
