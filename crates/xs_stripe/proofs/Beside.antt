-- The rows that a stripe knows are there as far as its lines need them.
use Rattle.std.proofs.Common.{◌≡◌, ℕ, ◌+◌, ◌-◌, ◌*◌, ◌<◌, ◌≤◌, min, List, [], length, get_or, ℤ, nat_lt, if◌then◌else◌, Option, None, Some, ap, sym, subst, ◌∙◌, arith, inl, inr}
use Rattle.std.specs.Prelude.{IfSome, MatchOption}
use Rattle.std.specs.Borrow.{Bor}
use Rattle.std.proofs.lemmas.Bool.{cases_lt, lt-ltb, le-ltb}
use Rattle.xs_params.specs.declared.header.Header.{Header}
use Rattle.xs_params.specs.Geometry.{bands_of, band_height_of}
use Rattle.xs_signal.specs.Lines.{Shows}
use Rattle.xs_geometry.specs.SliceLines.{BandLines, lines_at, row_at, AreLinesOf, ShowRows, first_line_of, end_line_of, slice_height}
use Rattle.xs_rate.specs.Coefficients.{Rows}
use Rattle.xs_stripe.specs.Source.{ShowRowsOf}
use Rattle.xs_stripe.specs.Edges.{IsDownEdge, ShowsDown, ShowsUp, edge_row}
use Rattle.xs_stripe.specs.Near.{row_in, near_row, near_rows}
use Rattle.xs_stripe.specs.declared.edges.Edge.{Edge}
use Rattle.xs_stripe.proofs.Edged.{row_shown}

-- ---- where a row stands

abbrev end_of : BandLines → ℕ
end_of lines = lines.first + length lines.rows

abbrev above_part : Option (Bor Edge) → BandLines → ℕ → ℕ → List ℤ
above_part above lines band line = if nat_lt (line + 1) lines.first then [] else row_in above band

abbrev below_part : BandLines → Option (Bor Edge) → ℕ → ℕ → List ℤ
below_part lines below band line = if nat_lt (end_of lines) line then [] else row_in below band

abbrev inner_part : BandLines → Option (Bor Edge) → ℕ → ℕ → List ℤ
inner_part lines below band line = if nat_lt line (end_of lines) then get_or lines.rows (line - lines.first) [] else below_part lines below band line

near_first : (above : Option (Bor Edge)) (lines : BandLines) (below : Option (Bor Edge)) (band line : ℕ) → line < lines.first → near_row above lines below band line ≡ above_part above lines band line
near_first above lines below band line less = ap (λ t. if t then above_part above lines band line else inner_part lines below band line) (lt-ltb line lines.first less)

near_later : (above : Option (Bor Edge)) (lines : BandLines) (below : Option (Bor Edge)) (band line : ℕ) → lines.first ≤ line → near_row above lines below band line ≡ inner_part lines below band line
near_later above lines below band line past = ap (λ t. if t then above_part above lines band line else inner_part lines below band line) (le-ltb line lines.first past)

pub near_above : (above : Option (Bor Edge)) (lines : BandLines) (below : Option (Bor Edge)) (band line : ℕ) → line + 1 ≡ lines.first → near_row above lines below band line ≡ row_in above band
near_above above lines below band line at =
    near_first above lines below band line (omega (arith, at)) ∙ ap (λ t. if t then [] else row_in above band) (le-ltb (line + 1) lines.first (omega (arith, at)))

pub near_body : (above : Option (Bor Edge)) (lines : BandLines) (below : Option (Bor Edge)) (band line : ℕ) → lines.first ≤ line → line < end_of lines → near_row above lines below band line ≡ get_or lines.rows (line - lines.first) []
near_body above lines below band line from to =
    near_later above lines below band line from ∙ ap (λ t. if t then get_or lines.rows (line - lines.first) [] else below_part lines below band line) (lt-ltb line (end_of lines) to)

near_after : (above : Option (Bor Edge)) (lines : BandLines) (below : Option (Bor Edge)) (band line : ℕ) → end_of lines ≤ line → near_row above lines below band line ≡ below_part lines below band line
near_after above lines below band line past =
    near_later above lines below band line (omega (arith, past)) ∙ ap (λ t. if t then get_or lines.rows (line - lines.first) [] else below_part lines below band line) (le-ltb line (end_of lines) past)

pub near_below : (above : Option (Bor Edge)) (lines : BandLines) (below : Option (Bor Edge)) (band line : ℕ) → line ≡ end_of lines → near_row above lines below band line ≡ row_in below band
near_below above lines below band line at =
    near_after above lines below band line (omega (arith, at)) ∙ ap (λ t. if t then [] else row_in below band) (le-ltb (end_of lines) line (omega (arith, at)))

-- it stands in one of three places, or nowhere
pub data Stands (lines : BandLines) (line : ℕ) (row : List ℤ) : Type 0 where
  over : line + 1 ≡ lines.first → Stands lines line row
  among : lines.first ≤ line → line < lines.first + length lines.rows → Stands lines line row
  under : line ≡ lines.first + length lines.rows → Stands lines line row
  nowhere : row ≡ [] → Stands lines line row

pub stands : (above : Option (Bor Edge)) (lines : BandLines) (below : Option (Bor Edge)) (band line : ℕ) → Stands lines line (near_row above lines below band line)
stands above lines below band line =
    elim (cases_lt line lines.first) [
      | inl less ↦
          elim (cases_lt (line + 1) lines.first) [
            | inl more ↦ nowhere (near_first above lines below band line less ∙ ap (λ t. if t then [] else row_in above band) (lt-ltb (line + 1) lines.first more))
            | inr at ↦ over (omega (arith, less, at))
          ]
      | inr from ↦
          elim (cases_lt line (end_of lines)) [
            | inl to ↦ among from to
            | inr past ↦
                elim (cases_lt (end_of lines) line) [
                  | inl more ↦ nowhere (near_after above lines below band line past ∙ ap (λ t. if t then [] else row_in below band) (lt-ltb (end_of lines) line more))
                  | inr at ↦ under (omega (arith, past, at))
                ]
          ]
    ]

pub near_inside : (above : Option (Bor Edge)) (body : List BandLines) (below : Option (Bor Edge)) (band line : ℕ) → band < length body → near_rows above body below band line ≡ near_row above (lines_at body band) below band line
near_inside above body below band line inside = ap (λ t. if t then near_row above (lines_at body band) below band line else []) (lt-ltb band (length body) inside)

pub near_outside : (above : Option (Bor Edge)) (body : List BandLines) (below : Option (Bor Edge)) (band line : ℕ) → length body ≤ band → near_rows above body below band line ≡ []
near_outside above body below band line past = ap (λ t. if t then near_row above (lines_at body band) below band line else []) (le-ltb band (length body) past)

-- ---- what a row that is there is

pub known_band : (above : Option (Bor Edge)) (body : List BandLines) (below : Option (Bor Edge)) (band line : ℕ) → 0 < length (near_rows above body below band line) → band < length body
known_band above body below band line some =
    elim (cases_lt band (length body)) [ inl inside ↦ inside | inr past ↦ absurd (omega (arith, some, ap length (near_outside above body below band line past))) ]

pub known_above : (above : Option (Bor Edge)) (body : List BandLines) (below : Option (Bor Edge)) (band line : ℕ) → 0 < length (near_rows above body below band line) → line < (lines_at body band).first → row_in above band ≡ near_rows above body below band line
known_above above body below band line some less =
    let is = near_inside above body below band line (known_band above body below band line some) in
    elim (stands above (lines_at body band) below band line) [
      | over at ↦ sym (is ∙ near_above above (lines_at body band) below band line at)
      | among from to ↦ absurd (omega (arith, less, from))
      | under at ↦ absurd (omega (arith, less, at))
      | nowhere none ↦ absurd (omega (arith, some, ap length (is ∙ none)))
    ]

pub known_body : (above : Option (Bor Edge)) (body : List BandLines) (below : Option (Bor Edge)) (band line : ℕ) → 0 < length (near_rows above body below band line) → (lines_at body band).first ≤ line → line < (lines_at body band).first + length (lines_at body band).rows
    → row_at body band line ≡ near_rows above body below band line
known_body above body below band line some from to = sym (near_inside above body below band line (known_band above body below band line some) ∙ near_body above (lines_at body band) below band line from to)

pub known_below : (above : Option (Bor Edge)) (body : List BandLines) (below : Option (Bor Edge)) (band line : ℕ) → 0 < length (near_rows above body below band line) → (lines_at body band).first + length (lines_at body band).rows ≤ line
    → row_in below band ≡ near_rows above body below band line
known_below above body below band line some past =
    let is = near_inside above body below band line (known_band above body below band line some) in
    elim (stands above (lines_at body band) below band line) [
      | over at ↦ absurd (omega (arith, past, at))
      | among from to ↦ absurd (omega (arith, past, to))
      | under at ↦ sym (is ∙ near_below above (lines_at body band) below band line at)
      | nowhere none ↦ absurd (omega (arith, some, ap length (is ∙ none)))
    ]

-- ---- the rows are those of the coefficients

above_shown : (h : Header) (slice : ℕ) (rows : Rows) (above : Option (Bor Edge)) (band line : ℕ) → MatchOption above (slice ≡ 0) (λ edge. (0 < slice) × IsDownEdge h (slice - 1) edge.now) → IfSome above (λ edge. ShowsDown h (slice - 1) edge.now rows)
    → line + 1 ≡ first_line_of h slice band → Shows (row_in above band) (rows band line)
above_shown h slice rows None band line is shown at = λ k inside. absurd (omega (arith, inside))
above_shown h slice rows (Some edge) band line is shown at =
    let next : slice - 1 + 1 ≡ slice = omega (arith, is.0) in
    let same : end_line_of h (slice - 1) band - 1 ≡ line = ap (λ n. min (n * slice_height h band) (band_height_of h band) - 1) next ∙ omega (arith, at) in
    subst (λ l. Shows (edge_row edge.now band) (rows band l)) same (shown band)

below_shown : (h : Header) (slice : ℕ) (rows : Rows) (below : Option (Bor Edge)) (band line : ℕ) → IfSome below (λ edge. ShowsUp h (slice + 1) edge.now rows) → line ≡ end_line_of h slice band → Shows (row_in below band) (rows band line)
below_shown h slice rows None band line shown at = λ k inside. absurd (omega (arith, inside))
below_shown h slice rows (Some edge) band line shown at = subst (λ l. Shows (edge_row edge.now band) (rows band l)) (sym at) (shown band)

pub near_shown : (h : Header) (slice : ℕ) (rows : Rows) (above : Option (Bor Edge)) (body : List BandLines) (below : Option (Bor Edge)) → AreLinesOf h slice body → MatchOption above (slice ≡ 0) (λ edge. (0 < slice) × IsDownEdge h (slice - 1) edge.now)
    → ShowRows h rows body → IfSome above (λ edge. ShowsDown h (slice - 1) edge.now rows) → IfSome below (λ edge. ShowsUp h (slice + 1) edge.now rows) → ShowRowsOf rows (near_rows above body below)
near_shown h slice rows above body below lines is show down up band line =
    elim (cases_lt band (length body)) [
      | inr past ↦ subst (λ r. Shows r (rows band line)) (sym (near_outside above body below band line past)) (λ k inside. absurd (omega (arith, inside)))
      | inl inside ↦
          let there : band < bands_of h = omega (arith, inside, lines.count) in
          subst (λ r. Shows r (rows band line)) (sym (near_inside above body below band line inside))
          (elim (stands above (lines_at body band) below band line) [
            | over at ↦ subst (λ r. Shows r (rows band line)) (sym (near_above above (lines_at body band) below band line at)) (above_shown h slice rows above band line is down (at ∙ lines.first band there))
            | among from to ↦
                subst (λ r. Shows r (rows band line)) (sym (near_body above (lines_at body band) below band line from to))
                (row_shown h rows body band line show (record { band_there = inside; from = from; line_there = to }))
            | under at ↦
                let last : line ≡ end_line_of h slice band = omega (arith, at, lines.first band there, lines.lines band there) in
                subst (λ r. Shows r (rows band line)) (sym (near_below above (lines_at body band) below band line at)) (below_shown h slice rows below band line up last)
            | nowhere none ↦ subst (λ r. Shows r (rows band line)) (sym none) (λ k less. absurd (omega (arith, less)))
          ])
    ]
