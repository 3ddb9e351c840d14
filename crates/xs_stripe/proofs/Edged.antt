-- The rows of an edge are rows of its slice.
use Rattle.std.proofs.Common.{◌≡◌, ◌⊎◌, ℕ, zero, suc, ◌+◌, ◌-◌, ◌*◌, ◌/◌, ◌^◌, ◌<◌, ◌≤◌, min, List, [], length, get_or, map, ℤ, pos, Bool, true, false, if◌then◌else◌, refl, ap, sym, subst, ◌∙◌, arith, inl, inr}
use Rattle.std.proofs.Math.Nat.{mul-div_cancel}
use Rattle.std.proofs.lemmas.Bool.{cases_lt}
use Rattle.std.proofs.lemmas.List.{get_or_past}
use Rattle.std.proofs.lemmas.List.FromFn.{get_or-map-range_with_len, length-map-range_with_len}
use Rattle.xs_lists.specs.Spelling.{upto}
use Rattle.xs_layout.specs.declared.Format.{Format}
use Rattle.xs_layout.specs.declared.Format.TheVariants.{Mono, C422, C444}
use Rattle.xs_layout.specs.Geometry.{BandType, ll, type_of_band, components_of, side_size}
use Rattle.xs_params.specs.declared.header.Header.{Header}
use Rattle.xs_params.specs.Geometry.{bands_of, band_type_of, band_width_of, band_height_of, precinct_count, slice_count}
use Rattle.xs_params.specs.Accepted.{IsGeometry}
use Rattle.xs_signal.specs.Lines.{Shows, entries_of}
use Rattle.xs_geometry.specs.SliceLines.{BandLines, lines_at, row_at, HasLine, AreLinesOf, ShowRows, first_line_of, end_line_of, slice_height}
use Rattle.xs_geometry.proofs.Counts.{slice_begins}
use Rattle.xs_rate.specs.Coefficients.{Rows}
use Rattle.xs_stripe.specs.Source.{IsBandRow}
use Rattle.xs_stripe.specs.Edges.{AreSmallRows, EdgeRows, edge_row, HasLines, HasHighLines, IsEdgeOf, first_row, last_row, last_high_row}

-- ---- rows of a slice

pub band_row : (h : Header) (slice : ℕ) (body : List BandLines) (band line : ℕ) → AreLinesOf h slice body → AreSmallRows body → HasLine body band line → IsBandRow (band_width_of h band) (row_at body band line)
band_row h slice body band line lines small there = record { wide = lines.width band line there; small = small band line there }

pub row_shown : (h : Header) (rows : Rows) (body : List BandLines) (band line : ℕ) → ShowRows h rows body → HasLine body band line → Shows (row_at body band line) (rows band line)
row_shown h rows body band line show there k inside =
    let is = show band line there in
    let width = band_width_of h band in
    let less : k < width = omega (arith, inside, ap length is, length-map-range_with_len (rows band line) 0 width) in
    ap (λ l. entries_of l k) is ∙ get_or-map-range_with_len (rows band line) 0 width k k (pos 0) less (omega arith)

pub line_there : (h : Header) (slice : ℕ) (body : List BandLines) (band line : ℕ) → AreLinesOf h slice body → band < bands_of h → first_line_of h slice band ≤ line → line < end_line_of h slice band → HasLine body band line
line_there h slice body band line lines inside from to = record {
  band_there = omega (arith, inside, lines.count);
  from = omega (arith, from, lines.first band inside);
  line_there = omega (arith, to, lines.first band inside, lines.lines band inside);
}

-- ---- rows that are picked

-- of each band of which this holds one line is picked, and of no other
pub record IsPicked (h : Header) (body : List BandLines) (has : ℕ → Type 0) (pick : ℕ → ℕ) (f : ℕ → List ℤ) : Type 0 where
  pub inside : (band : ℕ) → has band → band < bands_of h
  pub there : (band : ℕ) → has band → HasLine body band (pick band)
  pub here : (band : ℕ) → has band → f band ≡ row_at body band (pick band)
  pub none : (band : ℕ) → band < bands_of h → has band ⊎ f band ≡ []

picked_row : (h : Header) (f : ℕ → List ℤ) (edge : EdgeRows) (band : ℕ) → edge.rows ≡ map f (upto (bands_of h)) → band < bands_of h → edge_row edge band ≡ f band
picked_row h f edge band are inside = ap (λ l. get_or l band []) are ∙ get_or-map-range_with_len f 0 (bands_of h) band band [] inside (omega arith)

-- the row of a band is that of the line that is picked, or there is none
picked_cases : (h : Header) (body : List BandLines) (has : ℕ → Type 0) (pick : ℕ → ℕ) (f : ℕ → List ℤ) (edge : EdgeRows) (band : ℕ) → IsPicked h body has pick f → edge.rows ≡ map f (upto (bands_of h)) → has band ⊎ edge_row edge band ≡ []
picked_cases h body has pick f edge band picked are =
    elim (cases_lt band (bands_of h)) [
      | inl inside ↦ elim (picked.none band inside) [ inl held ↦ inl held | inr empty ↦ inr (picked_row h f edge band are inside ∙ empty) ]
      | inr past ↦ inr (get_or_past edge.rows band [] (omega (arith, past, ap length are, length-map-range_with_len f 0 (bands_of h))))
    ]

pub edge_is : (h : Header) (slice : ℕ) (body : List BandLines) (has : ℕ → Type 0) (pick : ℕ → ℕ) (f : ℕ → List ℤ) (edge : EdgeRows) → AreLinesOf h slice body → AreSmallRows body → IsPicked h body has pick f → edge.slice ≡ slice
    → edge.rows ≡ map f (upto (bands_of h)) → IsEdgeOf slice (bands_of h) (band_width_of h) has edge
edge_is h slice body has pick f edge lines small picked slice_is are = record {
  slice_is = slice_is;
  count = ap length are ∙ length-map-range_with_len f 0 (bands_of h);
  there = λ band held.
      subst (IsBandRow (band_width_of h band)) (sym (picked_row h f edge band are (picked.inside band held) ∙ picked.here band held)) (band_row h slice body band (pick band) lines small (picked.there band held));
  alone = λ band some. elim (picked_cases h body has pick f edge band picked are) [ inl held ↦ held | inr empty ↦ absurd (some empty) ];
}

pub edge_shows : (h : Header) (rows : Rows) (body : List BandLines) (has : ℕ → Type 0) (pick : ℕ → ℕ) (f : ℕ → List ℤ) (edge : EdgeRows) → IsPicked h body has pick f → ShowRows h rows body → edge.rows ≡ map f (upto (bands_of h))
    → (band : ℕ) → Shows (edge_row edge band) (rows band (pick band))
edge_shows h rows body has pick f edge picked show are band =
    elim (picked_cases h body has pick f edge band picked are) [
      | inl held ↦ subst (λ r. Shows r (rows band (pick band))) (sym (picked_row h f edge band are (picked.inside band held) ∙ picked.here band held)) (row_shown h rows body band (pick band) show (picked.there band held))
      | inr empty ↦ λ k inside. absurd (omega (arith, inside, ap length empty))
    ]

-- ---- the first and the last rows

pub picked_up : (h : Header) (slice : ℕ) (body : List BandLines) → AreLinesOf h slice body → IsPicked h body (HasLines h slice) (first_line_of h slice) (first_row body)
picked_up h slice body lines = record {
  inside = λ band has. has.0;
  there = λ band has. line_there h slice body band (first_line_of h slice band) lines has.0 (omega arith) has.1;
  here = λ band has.
      let at : 0 ≡ first_line_of h slice band - (lines_at body band).first = omega (arith, lines.first band has.0) in
      ap (λ k. get_or (lines_at body band).rows k []) at;
  none = λ band inside.
      elim (cases_lt (first_line_of h slice band) (end_line_of h slice band)) [
        | inl less ↦ inl (inside, less)
        | inr past ↦ inr (get_or_past (lines_at body band).rows 0 [] (omega (arith, past, lines.lines band inside)))
      ];
}

bool_cases : (b : Bool) → b ≡ true ⊎ b ≡ false
bool_cases true = inl refl
bool_cases false = inr refl

pub picked_down : (h : Header) (slice : ℕ) (body : List BandLines) → AreLinesOf h slice body → IsPicked h body (HasHighLines h slice) (λ band. end_line_of h slice band - 1) (last_high_row h body)
picked_down h slice body lines = record {
  inside = λ band has. has.0.0;
  there = λ band has. line_there h slice body band (end_line_of h slice band - 1) lines has.0.0 (omega (arith, has.0.1)) (omega (arith, has.0.1));
  here = λ band has.
      let at : length (lines_at body band).rows - 1 ≡ end_line_of h slice band - 1 - (lines_at body band).first = omega (arith, lines.first band has.0.0, lines.lines band has.0.0) in
      ap (λ t. if t then last_row body band else []) has.1 ∙ ap (λ k. get_or (lines_at body band).rows k []) at;
  none = λ band inside.
      elim (bool_cases (band_type_of h band).high_down) [
        | inl high ↦
            elim (cases_lt (first_line_of h slice band) (end_line_of h slice band)) [
              | inl less ↦ inl ((inside, less), high)
              | inr past ↦
                  inr (ap (λ t. if t then last_row body band else []) high ∙ get_or_past (lines_at body band).rows (length (lines_at body band).rows - 1) [] (omega (arith, past, lines.lines band inside)))
            ]
        | inr low ↦ inr (ap (λ t. if t then last_row body band else []) low)
      ];
}

-- ---- the number of the slice

first_type : (nlx nly : ℕ) (f : Format) → type_of_band nlx nly (components_of f) 0 ≡ ll nlx nly
first_type nlx nly Mono = refl
first_type nlx nly C422 = refl
first_type nlx nly C444 = refl

lowest_first : (h : Header) (slice : ℕ) → IsGeometry h → slice < slice_count h → first_line_of h slice 0 ≡ slice * h.hsl
lowest_first h slice ranges there =
    let type : band_type_of h 0 ≡ ll h.nlx h.nly = first_type h.nlx h.nly h.shape.format in
    let high : band_height_of h 0 ≡ precinct_count h = ap (λ (t : BandType). side_size h.shape.height t.down t.high_down) type in
    let none : h.nly - h.nly ≡ 0 = omega arith in
    let one : 2 ^ (h.nly - (band_type_of h 0).down) ≡ 1 = ap (λ (t : BandType). 2 ^ (h.nly - t.down)) type ∙ ap (λ k. 2 ^ k) none in
    let each : slice_height h 0 ≡ h.hsl = ap (λ n. h.hsl * n) one ∙ omega arith in
    let less = slice_begins h slice ranges.hsl there in
    let whole : slice * slice_height h 0 ≡ slice * h.hsl = ap (λ n. slice * n) each in
    omega (arith, high, whole, less)

slice_cases : (slice hsl most first each : ℕ) → 1 ≤ hsl → first ≡ slice * hsl → slice * hsl < most → each ≡ min ((0 + 1) * hsl) most → first / each ≡ slice
slice_cases zero hsl most first each some is less width =
    let positive : 0 < each = omega (arith, width, some, less) in
    let none : first ≡ 0 * each = omega (arith, is) in
    ap (λ n. n / each) none ∙ mul-div_cancel 0 positive
slice_cases (suc slice) hsl most first each some is less width =
    let more : suc slice * hsl ≡ slice * hsl + hsl = omega arith in
    let here : each ≡ hsl = omega (arith, width, less, more) in
    ap (λ n. n / each) is ∙ ap (λ n. suc slice * hsl / n) here ∙ mul-div_cancel (suc slice) (omega (arith, some))

pub slice_found : (h : Header) (slice : ℕ) (body : List BandLines) (first each : ℕ) → IsGeometry h → slice < slice_count h → AreLinesOf h slice body → 0 < bands_of h → first ≡ (lines_at body 0).first → each ≡ min ((0 + 1) * h.hsl) (precinct_count h)
    → first / each ≡ slice
slice_found h slice body first each ranges there lines some is width =
    slice_cases slice h.hsl (precinct_count h) first each ranges.hsl (is ∙ lines.first 0 some ∙ lowest_first h slice ranges there) (slice_begins h slice ranges.hsl there) width

pub some_bands : (nlx nly : ℕ) (f : Format) → 0 < (2 * nly + nlx + 1) * components_of f
some_bands nlx nly Mono = omega arith
some_bands nlx nly C422 = omega arith
some_bands nlx nly C444 = omega arith
