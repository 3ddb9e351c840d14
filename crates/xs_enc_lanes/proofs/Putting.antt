-- Rows are put into those of a slice.
use Rattle.std.proofs.Common.{◌≡◌, ◌≢◌, ◌⊎◌, ℕ, zero, suc, ◌+◌, ◌-◌, ◌/◌, ◌^◌, ◌<◌, ◌≤◌, Some, None, List, [], ◌∷◌, ◌++◌, length, map, get_or, replicate, ℤ, pos, sym, ap, subst, ◌∙◌, arith, inl, inr}
use Rattle.std.specs.Prelude.{unsigned_abs}
use Rattle.std.specs.List.{Contains}
use Rattle.std.proofs.lemmas.Bool.{cases_eq, cases_lt}
use Rattle.std.proofs.lemmas.List.{get_or_past}
use Rattle.std.proofs.lemmas.List.FromFn.{length-map-range_with_len}
use Rattle.std.proofs.lemmas.List.Elements.{All-contains, All-contains_itself, All-weaker, Contains-append_left, Contains-push, Contains-push_cases}
use Rattle.xs_lists.specs.Spelling.{upto}
use Rattle.xs_params.specs.declared.header.Header.{Header}
use Rattle.xs_params.specs.Geometry.{band_component, band_width_of, bands_of}
use Rattle.xs_params.specs.Rows.{Rows}
use Rattle.xs_signal.specs.Lines.{entries_of}
use Rattle.xs_layout.specs.Geometry.{components_of}
use Rattle.xs_geometry.specs.SliceLines.{BandLines, AreBlank, AreLinesOf, HasLine, first_line_of, lines_at, row_at, rows_held}
use Rattle.xs_geometry.specs.Laws.{IsWritten}
use Rattle.xs_geometry.specs.Written.{with_row}
use Rattle.xs_geometry.proofs.WrittenRows.{row_written, lines_kept}
use Rattle.xs_rate.specs.Laws.{AreSmall, IsSmallRow}
use Rattle.xs_enc_lanes.specs.Rows.{Carried, HasComponent, IsSliceLine, component_in, row_of_component}
use Rattle.xs_enc_lanes.specs.Placed.{AllCarry, AreGathered, AreRowsPut, CarriesIn, EachSmall, IsOfBand, IsOfValue, IsRowOf, IsRowPut}

-- Lines

pub line_there : (h : Header) (slice : ℕ) (bands : List BandLines) (band line : ℕ) → AreLinesOf h slice bands → IsSliceLine h slice band line → HasLine bands band line
line_there h slice bands band line are is =
    let first = are.first band is.band_there in
    let end = are.lines band is.band_there in
    let from = is.from in
    let below = is.below in
    let count = are.count in
    let inside = is.band_there in
    record { band_there = omega (arith, inside, count); from = omega (arith, first, from); line_there = omega (arith, first, end, below) }

pub line_of : (h : Header) (slice : ℕ) (bands : List BandLines) (band line : ℕ) → AreLinesOf h slice bands → HasLine bands band line → IsSliceLine h slice band line
line_of h slice bands band line are has =
    let count = are.count in
    let there = has.band_there in
    let inside : band < bands_of h = omega (arith, there, count) in
    let first = are.first band inside in
    let end = are.lines band inside in
    let from = has.from in
    let below = has.line_there in
    record { band_there = inside; from = omega (arith, first, from); below = omega (arith, first, end, below) }

-- One row

pub put_none : (h : Header) (slice : ℕ) (A : Rows → Type 0) (bands : List BandLines) (done : ℕ → ℕ → Type 0) → AreLinesOf h slice bands → EachSmall bands → ((band line : ℕ) → IsSliceLine h slice band line → done band line → ⊥)
    → AreRowsPut h slice A bands bands done
put_none h slice A bands done are small none = record { lines = are; small = small; kept = λ rows a band line is here. here; theirs = λ rows a band line is d. absurd (none band line is d) }

pub put_weaker : (h : Header) (slice : ℕ) (A : Rows → Type 0) (old new : List BandLines) (done more : ℕ → ℕ → Type 0) → ((band line : ℕ) → IsSliceLine h slice band line → more band line → done band line) → AreRowsPut h slice A old new done → AreRowsPut h slice A old new more
put_weaker h slice A old new done more less p = record { lines = p.lines; small = p.small; kept = p.kept; theirs = λ rows a band line is m. p.theirs rows a band line is (less band line is m) }

pub put_more : (h : Header) (slice band line : ℕ) (A : Rows → Type 0) (old now next : List BandLines) (row : List ℤ) (done more : ℕ → ℕ → Type 0) → AreRowsPut h slice A old now done → HasLine now band line → IsSmallRow (entries_of row)
    → IsRowPut now band line row next → ((rows : Rows) → A rows → row ≡ map (rows band line) (upto (band_width_of h band)))
    → ((b l : ℕ) → IsSliceLine h slice b l → more b l → done b l ⊎ ((b ≡ band) × (l ≡ line))) → AreRowsPut h slice A old next more
put_more h slice band line A old now next row done more before here low put shows either = by (cases_eq (length row) (length (row_at now band line)))
  where
    wide : (rows : Rows) → A rows → length row ≡ length (row_at now band line)
    wide rows a = ap length (shows rows a) ∙ length-map-range_with_len (rows band line) 0 (band_width_of h band) ∙ sym (before.lines.width band line here)

    new : List BandLines
    new = with_row now band line row

    written : IsWritten now band line row
    written = row_written now band line row here

    at : (b l : ℕ) (P : List ℤ → Type 0) → HasLine now b l → (b ≡ band → l ≡ line → P row) → P (row_at now b l) → P (row_at new b l)
    at b l P has mine other =
        elim (cases_eq b band) [
          | inl e ↦ elim (cases_eq l line) [
            | inl f ↦ subst (λ k. P (row_at new k l)) (sym e) (subst (λ k. P (row_at new band k)) (sym f) (subst P (sym written.here) (mine e f)))
            | inr apart ↦ subst P (sym (written.elsewhere b l has (inr apart))) other
          ]
          | inr apart ↦ subst P (sym (written.elsewhere b l has (inl apart))) other
        ]

    shows_at : (rows : Rows) (b l : ℕ) → A rows → b ≡ band → l ≡ line → row ≡ map (rows b l) (upto (band_width_of h b))
    shows_at rows b l a e f = subst (λ k. row ≡ map (rows k l) (upto (band_width_of h k))) (sym e) (subst (λ k. row ≡ map (rows band k) (upto (band_width_of h band))) (sym f) (shows rows a))

    is_row : (rows : Rows) (b l : ℕ) → A rows → IsSliceLine h slice b l → IsRowOf h rows now b l → IsRowOf h rows new b l
    is_row rows b l a is was = at b l (λ r. r ≡ map (rows b l) (upto (band_width_of h b))) (line_there h slice now b l before.lines is) (shows_at rows b l a) was

    here_is : (rows : Rows) (b l : ℕ) → A rows → b ≡ band → l ≡ line → IsRowOf h rows new b l
    here_is rows b l a e f = subst (λ k. IsRowOf h rows new k l) (sym e) (subst (λ k. IsRowOf h rows new band k) (sym f) (written.here ∙ shows rows a))

    by : (length row ≡ length (row_at now band line)) ⊎ (length row ≢ length (row_at now band line)) → AreRowsPut h slice A old next more
    by (inl whole) = subst (λ n. AreRowsPut h slice A old n more) (sym (put.whole whole)) (record {
      lines = lines_kept h slice now band line row before.lines here whole;
      small = λ b l has. at b l (λ r. IsSmallRow (entries_of r)) ((written.same_lines b l).0 has) (λ e f. low) (before.small b l ((written.same_lines b l).0 has));
      kept = λ rows a b l is was. is_row rows b l a is (before.kept rows a b l is was);
      theirs = λ rows a b l is m. elim (either b l is m) [ inl d ↦ is_row rows b l a is (before.theirs rows a b l is d) | inr same ↦ here_is rows b l a same.0 same.1 ];
    })
    by (inr other) = subst (λ n. AreRowsPut h slice A old n more) (sym (put.other other)) (record {
      lines = before.lines;
      small = before.small;
      kept = before.kept;
      theirs = λ rows a b l is m. elim (either b l is m) [ inl d ↦ before.theirs rows a b l is d | inr same ↦ absurd (other (wide rows a)) ];
    })

-- rows that were put one after the other
pub put_after : (h : Header) (slice : ℕ) (A : Rows → Type 0) (old now next : List BandLines) (done first more : ℕ → ℕ → Type 0) → AreRowsPut h slice A old now done → AreRowsPut h slice A now next first
    → ((b l : ℕ) → IsSliceLine h slice b l → more b l → done b l ⊎ first b l) → AreRowsPut h slice A old next more
put_after h slice A old now next done first more before after either = record {
  lines = after.lines;
  small = after.small;
  kept = λ rows a b l is was. after.kept rows a b l is (before.kept rows a b l is was);
  theirs = λ rows a b l is m. elim (either b l is m) [ inl d ↦ after.kept rows a b l is (before.theirs rows a b l is d) | inr f ↦ after.theirs rows a b l is f ];
}

-- Bands, one after the other

pub band_put : (h : Header) (slice band : ℕ) (v : Carried) (old now next : List BandLines) → AreRowsPut h slice (CarriesIn h slice v) old now (λ (b l : ℕ). (band_component h b ≡ component_in v) × (b < band)) → AreRowsPut h slice (CarriesIn h slice v) now next (IsOfBand band)
    → AreRowsPut h slice (CarriesIn h slice v) old next (λ (b l : ℕ). (band_component h b ≡ component_in v) × (b < band + 1))
band_put h slice band v old now next before put = put_after h slice (CarriesIn h slice v) old now next (λ (b l : ℕ). (band_component h b ≡ component_in v) × (b < band)) (IsOfBand band) (λ (b l : ℕ). (band_component h b ≡ component_in v) × (b < band + 1)) before put
    (λ b l is d. elim (cases_eq b band) [ inl same ↦ inr same | inr other ↦ inl (d.0, (let below = d.1 in omega (arith, below, other))) ])

-- a band of another component
pub band_past : (h : Header) (slice band : ℕ) (v : Carried) (old now : List BandLines) → band_component h band ≢ component_in v → AreRowsPut h slice (CarriesIn h slice v) old now (λ (b l : ℕ). (band_component h b ≡ component_in v) × (b < band))
    → AreRowsPut h slice (CarriesIn h slice v) old now (λ (b l : ℕ). (band_component h b ≡ component_in v) × (b < band + 1))
band_past h slice band v old now apart before = put_weaker h slice (CarriesIn h slice v) old now (λ (b l : ℕ). (band_component h b ≡ component_in v) × (b < band)) (λ (b l : ℕ). (band_component h b ≡ component_in v) × (b < band + 1))
    (λ b l is d. elim (cases_eq b band) [ inl same ↦ absurd (apart (ap (band_component h) (sym same) ∙ d.0)) | inr other ↦ (d.0, (let below = d.1 in omega (arith, below, other))) ]) before

-- Values

zeros_small : (n : ℕ) → IsSmallRow (entries_of (replicate n (pos 0)))
zeros_small zero column = subst (λ z. unsigned_abs z < 2 ^ 15) (sym (get_or_past [] column (pos 0) (omega arith))) (omega arith)
zeros_small (suc n) zero = omega arith
zeros_small (suc n) (suc column) = zeros_small n column

pub gathered_none : (h : Header) (slice : ℕ) (bands : List BandLines) → AreLinesOf h slice bands → AreBlank bands → AreGathered h slice [] bands
gathered_none h slice bands are blank = record {
  lines = are;
  small = λ band line has. subst (λ r. IsSmallRow (entries_of r)) (sym (blank.zero band line has)) (zeros_small (length (row_at bands band line)));
  theirs = λ rows all band line is has. absurd (nothing (band_component h band) has);
}
  where
    nothing : (c : ℕ) → HasComponent [] c → ⊥
    nothing c (v, (i, lt, e), is) = absurd (omega (arith, lt))

pub gathered_more : (h : Header) (slice : ℕ) (values all : List Carried) (v : Carried) (now next : List BandLines) → all ≡ values ++ v ∷ [] → AreGathered h slice values now → AreRowsPut h slice (CarriesIn h slice v) now next (IsOfValue h v)
    → AreGathered h slice all next
gathered_more h slice values all v now next e before put = subst (λ l. AreGathered h slice l next) (sym e) (record {
  lines = put.lines;
  small = put.small;
  theirs = λ rows carry band line is has. by rows carry band line is (has.0) (has.2) (Contains-push_cases values v has.0 has.1);
})
  where
    this : (rows : Rows) → AllCarry h slice (values ++ v ∷ []) rows → CarriesIn h slice v rows
    this rows carry = All-contains (λ (x : Carried). CarriesIn h slice x rows) (values ++ v ∷ []) v carry (Contains-push values v)

    those : (rows : Rows) → AllCarry h slice (values ++ v ∷ []) rows → AllCarry h slice values rows
    those rows carry =
        All-weaker (Contains values) (λ (x : Carried). CarriesIn h slice x rows)
        (λ x has. All-contains (λ (y : Carried). CarriesIn h slice y rows) (values ++ v ∷ []) x carry (Contains-append_left values (v ∷ []) x has)) values (All-contains_itself values)

    by : (rows : Rows) → AllCarry h slice (values ++ v ∷ []) rows → (band line : ℕ) → IsSliceLine h slice band line → (x : Carried) → component_in x ≡ band_component h band → Contains values x ⊎ (v ≡ x) → IsRowOf h rows next band line
    by rows carry band line is x of (inl there) = put.kept rows (this rows carry) band line is (before.theirs rows (those rows carry) band line is (x, there, of))
    by rows carry band line is x of (inr same) = put.theirs rows (this rows carry) band line is (sym of ∙ ap component_in (sym same))

-- Magnitudes

pub small_held : (bands : List BandLines) → EachSmall bands → AreSmall (rows_held bands)
small_held bands small band line column = by_band (cases_lt band (length bands))
  where
    Small : List ℤ → Type 0
    Small row = unsigned_abs (get_or row column (pos 0)) < 2 ^ 15

    nothing : (row : List ℤ) → length row ≤ column → Small row
    nothing row past = subst (λ z. unsigned_abs z < 2 ^ 15) (sym (get_or_past row column (pos 0) past)) (omega arith)

    by_band : (band < length bands) ⊎ (length bands ≤ band) → Small (row_at bands band line)
    by_band (inr past) =
        let none : lines_at bands band ≡ record { first = 0; rows = [] } = get_or_past bands band _ past in
        subst Small (sym (ap (λ (l : BandLines). get_or l.rows (line - l.first) []) none ∙ get_or_past [] line [] (omega arith))) (nothing [] (omega arith))
    by_band (inl inside) = by_line (cases_lt (line - (lines_at bands band).first) (length (lines_at bands band).rows))
      where
        first : ℕ
        first = (lines_at bands band).first

        by_line : (line - (lines_at bands band).first < length (lines_at bands band).rows) ⊎ (length (lines_at bands band).rows ≤ line - (lines_at bands band).first) → Small (row_at bands band line)
        by_line (inr past) = subst Small (sym (get_or_past (lines_at bands band).rows (line - first) [] past)) (nothing [] (omega arith))
        by_line (inl there) =
            let back : first + (line - first) - first ≡ line - first = omega arith in
            subst (λ k. Small (get_or (lines_at bands band).rows k [])) back (small band (first + (line - first)) (record { band_there = inside; from = omega arith; line_there = omega (arith, there) }) column)

-- The row that a value has

pub carries_row : (h : Header) (slice : ℕ) (v : Carried) (rows : Rows) (band line : ℕ) → CarriesIn h slice v rows → IsSliceLine h slice band line → band_component h band ≡ component_in v
    → row_of_component v (band / components_of h.shape.format) (line - first_line_of h slice band) ≡ map (rows band line) (upto (band_width_of h band))
carries_row h slice None rows band line c is of = absurd c
carries_row h slice (Some x) rows band line (c, e) is of =
    subst (λ k. row_of_component (Some x) (band / components_of h.shape.format) (line - first_line_of h k band) ≡ map (rows band line) (upto (band_width_of h band))) e
    (c.row band line (subst (λ k. IsSliceLine h k band line) (sym e) is) of)
