-- Slices that were read one after the other: their contents are put together, since each speaks of its own lines.
use Rattle.std.proofs.Common.{◌≡◌, ℕ, ◌+◌, ◌/◌, ◌<◌, ◌≤◌, List, [], ◌∷◌, ◌++◌, map, take, drop, length, get_or, refl, sym, ap, subst, ◌∙◌, arith, append_assoc, length-append, inl, inr}
use Rattle.std.specs.Prelude.{Bool, true, false, if◌then◌else◌, nat_lt, ℤ, pos, None}
use Rattle.std.specs.List.{AllByRecursion}
use Rattle.std.proofs.Math.Nat.{div-div-eq-div-mul, mul_comm}
use Rattle.std.proofs.Math.Seq.{get_or-append_seam}
use Rattle.std.proofs.lemmas.Bool.{lt-ltb, le-ltb, cases_lt}
use Rattle.std.proofs.lemmas.List.{take-append-drop, drop-drop, get_or_append_left, get_or_past}
use Rattle.std.proofs.lemmas.List.FromFn.{get_or-map-range_with_len, length-map-range_with_len}
use Rattle.xs_lists.specs.Spelling.{upto, SpellsEach}
use Rattle.xs_lists.proofs.Each.{each-more, each-same, range-all, range-more}
use Rattle.xs_lists.proofs.Walk.{all-append}
use Rattle.xs_params.specs.declared.header.Header.{Header}
use Rattle.xs_params.specs.Accepted.{IsAccepted}
use Rattle.xs_params.specs.Geometry.{bands_of, band_height_of, band_width_of, precinct_lines}
use Rattle.xs_signal.specs.Lines.{entries_of}
use Rattle.xs_signal.specs.Quantiser.{dequantised}
use Rattle.xs_geometry.specs.SliceLines.{AreLinesOf, BandLines, HasLine, ShowRows, row_at, slice_height}
use Rattle.xs_grammar.specs.Precinct.{Content, line_truncation, precinct_of}
use Rattle.xs_grammar.specs.Slice.{IsSlice}
use Rattle.xs_grammar.specs.Laws.{AgreeOnSlice}
use Rattle.xs_grammar.proofs.Local.{slice_is_local}
use Rattle.xs_grammar.proofs.OneSlice.{truncation_at}
use Rattle.xs_reading.specs.Rows.{dequantised_rows}
use Rattle.xs_reading.specs.Slice.{slice_end, slice_fault}
use Rattle.xs_reading.specs.Stream.{slices_end, slice_start}
use Rattle.xs_magnitudes.specs.Small.{HaveSmallRows}
use Rattle.xs_magnitudes.proofs.Small.{spelled_small}
use Rattle.xs_slice_read.specs.Read.{IsFrontRead}
use Rattle.xs_picture.specs.Coefs.{rows_of_slices}
use Rattle.xs_picture.specs.StreamRead.{AreSlicesRead}
use Rattle.xs_picture.proofs.Coverage.{line_in_slice}

-- Where slices begin

ends_append : (h : Header) (xs : List ℕ) (x : ℕ) (bytes : List ℕ) (place : ℕ) → slices_end h (xs ++ x ∷ []) bytes place ≡ slices_end h xs bytes place + slice_end h x (drop (slices_end h xs bytes place) bytes)
ends_append h [] x bytes place = refl
ends_append h (y ∷ ys) x bytes place = ends_append h ys x bytes (place + slice_end h y (drop place bytes))

upto_more : (n : ℕ) → upto (n + 1) ≡ upto n ++ n ∷ []
upto_more n = let here : 0 + n ≡ n = omega arith in range-more 0 n ∙ ap (λ k. upto n ++ k ∷ []) here

pub start_more : (h : Header) (bytes : List ℕ) (place slice : ℕ) → slice_start h bytes place (slice + 1) ≡ slice_start h bytes place slice + slice_end h slice (drop (slice_start h bytes place slice) bytes)
start_more h bytes place slice = ap (λ xs. slices_end h xs bytes place) (upto_more slice) ∙ ends_append h (upto slice) slice bytes place

-- Contents

-- the slices before one by the old content, the others by the new one
abbrev pub merged : Header → ℕ → Content → Content → Content
merged h slice old new = record {
  q = λ precinct. if nat_lt (precinct / h.hsl) slice then old.q precinct else new.q precinct;
  r = λ precinct. if nat_lt (precinct / h.hsl) slice then old.r precinct else new.r precinct;
  count = λ band line. if nat_lt (precinct_of h band line / h.hsl) slice then old.count band line else new.count band line;
  value = λ band line. if nat_lt (precinct_of h band line / h.hsl) slice then old.value band line else new.value band line;
}

agree_before : (h : Header) (slice k : ℕ) (old new : Content) → k < slice → AgreeOnSlice h old (merged h slice old new) k
agree_before h slice k old new less = record {
  q = λ precinct here. ap (λ (b : Bool). if b then old.q precinct else new.q precinct) (below (precinct / h.hsl) here);
  r = λ precinct here. ap (λ (b : Bool). if b then old.r precinct else new.r precinct) (below (precinct / h.hsl) here);
  count = λ band line here. ap (λ (b : Bool). if b then old.count band line else new.count band line) (below (precinct_of h band line / h.hsl) here);
  value = λ band line here. ap (λ (b : Bool). if b then old.value band line else new.value band line) (below (precinct_of h band line / h.hsl) here);
}
  where
    below : (n : ℕ) → n ≡ k → true ≡ nat_lt n slice
    below n here = sym (lt-ltb n slice (omega (arith, less, here)))

agree_after : (h : Header) (slice k : ℕ) (old new : Content) → slice ≤ k → AgreeOnSlice h new (merged h slice old new) k
agree_after h slice k old new past = record {
  q = λ precinct here. ap (λ (b : Bool). if b then old.q precinct else new.q precinct) (above (precinct / h.hsl) here);
  r = λ precinct here. ap (λ (b : Bool). if b then old.r precinct else new.r precinct) (above (precinct / h.hsl) here);
  count = λ band line here. ap (λ (b : Bool). if b then old.count band line else new.count band line) (above (precinct_of h band line / h.hsl) here);
  value = λ band line here. ap (λ (b : Bool). if b then old.value band line else new.value band line) (above (precinct_of h band line / h.hsl) here);
}
  where
    above : (n : ℕ) → n ≡ k → false ≡ nat_lt n slice
    above n here = sym (le-ltb n slice (omega (arith, past, here)))

-- the first slices move to a content that agrees on them
slices_move : (h : Header) (content other : Content) (count : ℕ) (front : List ℕ) → 1 ≤ h.hsl → h.nly ≤ h.nlx → ((k : ℕ) → k < count → AgreeOnSlice h content other k)
    → SpellsEach (IsSlice h content) (upto count) front → SpellsEach (IsSlice h other) (upto count) front
slices_move h content other count front some deep same p =
    each-same (IsSlice h content) (IsSlice h other) (upto count) front
    (range-all (λ k. (l : List ℕ) → IsSlice h content k l → IsSlice h other k l) 0 count (λ k low high l slice. slice_is_local h content other k l some deep (same k (omega (arith, high))) slice)) p

-- Rows

-- contents that agree on a slice have the same rows there
same_rows : (h : Header) (content other : Content) (band line column k : ℕ) → precinct_of h band line / h.hsl ≡ k → AgreeOnSlice h content other k → dequantised_rows h content band line column ≡ dequantised_rows h other band line column
same_rows h content other band line column k here agree =
    ap (λ v. if nat_lt column (band_width_of h band) then v else pos 0)
    (ap (λ (c : ℕ → ℕ). dequantised h.quant (c (column / 4)) (line_truncation h content band line) (content.value band line column)) (agree.count band line here)
    ∙ ap (λ t. dequantised h.quant (other.count band line (column / 4)) t (content.value band line column)) (truncation_at h content other band line (precinct_of h band line) refl (agree.q (precinct_of h band line) here) (agree.r (precinct_of h band line) here))
    ∙ ap (λ (v : ℕ → ℤ). dequantised h.quant (other.count band line (column / 4)) (line_truncation h other band line) (v column)) (agree.value band line here))

-- the slice of a line
slice_of_line : (h : Header) (band line : ℕ) → precinct_of h band line / h.hsl ≡ line / slice_height h band
slice_of_line h band line = div-div-eq-div-mul line (precinct_lines h band) h.hsl ∙ ap (λ n. line / n) (mul_comm (precinct_lines h band) h.hsl)

-- a row that shows a content has its coefficients
row_shown : (h : Header) (content : Content) (bands : List BandLines) (band line column : ℕ) → ShowRows h (dequantised_rows h content) bands → HasLine bands band line
    → entries_of (row_at bands band line) column ≡ dequantised_rows h content band line column
row_shown h content bands band line column show there =
    ap (λ l. entries_of l column) (show band line there)
    ∙ elim (cases_lt column width) [
      | inl less ↦ let here : 0 + column ≡ column = omega arith in get_or-map-range_with_len row 0 width column column (pos 0) less here
      | inr past ↦
          let size = length-map-range_with_len row 0 width in
          let out : length (map row (upto width)) ≤ column = omega (arith, size, past) in
          get_or_past (map row (upto width)) column (pos 0) out ∙ ap (λ (b : Bool). if b then value else pos 0) (sym (le-ltb column width past))
    ]
  where
    width : ℕ
    width = band_width_of h band

    row : ℕ → ℤ
    row = dequantised_rows h content band line

    value : ℤ
    value = dequantised h.quant (content.count band line (column / 4)) (line_truncation h content band line) (content.value band line column)

-- Slices

-- nothing is read
pub none_read : (h : Header) (bytes : List ℕ) (start : ℕ) (slices : List (List BandLines)) → slices ≡ [] → AreSlicesRead h bytes start 0 slices start
none_read h bytes start slices none = record {
  no_fault = tt;
  ends = refl;
  content = record { q = λ _. 0; r = λ _. 0; count = λ _ _ _. 0; value = λ _ _ _. pos 0 };
  front = [];
  joined = refl;
  spelled = refl;
  number = ap length none;
  lines = λ slice there. absurd (omega (arith, there));
  small = λ slice there. absurd (omega (arith, there));
  shown = λ band line column inside there within. absurd (omega (arith, within));
}

-- one slice more
pub more_read : (h : Header) (bytes : List ℕ) (start slice : ℕ) (slices : List (List BandLines)) (rows : List BandLines) (place n : ℕ) → IsAccepted h
    → AreSlicesRead h bytes start slice slices place → IsFrontRead h slice rows (drop place bytes) n → AreSlicesRead h bytes start (slice + 1) (slices ++ rows ∷ []) (place + n)
more_read h bytes start slice slices rows place n accepted so read = record {
  no_fault = subst (AllByRecursion faultless) (sym (upto_more slice))
      (all-append faultless (upto slice) (slice ∷ []) so.no_fault (subst (λ k. slice_fault h slice (drop k bytes) ≡ None) (sym so.ends) read.no_fault, tt));
  ends = start_more h bytes start slice ∙ ap (λ k. k + slice_end h slice (drop k bytes)) so.ends ∙ ap (λ k. place + k) read.ends;
  content = now;
  front = so.front ++ part;
  joined = so.joined ∙ ap (λ l. so.front ++ l) (sym (take-append-drop n rest) ∙ ap (λ l. part ++ l) (drop-drop n place bytes)) ∙ sym (append_assoc so.front part (drop (place + n) bytes));
  spelled = subst (λ l. SpellsEach (IsSlice h now) l (so.front ++ part)) (sym (upto_more slice)) (each-more (IsSlice h now) (upto slice) slice so.front part earlier last);
  number = omega (arith, length-append slices (rows ∷ []), so.number);
  lines = lines;
  small = small;
  shown = shown;
}
  where
    faultless : ℕ → Type 0
    faultless k = slice_fault h k (drop (slice_start h bytes start k) bytes) ≡ None

    rest : List ℕ
    rest = drop place bytes

    part : List ℕ
    part = take n rest

    now : Content
    now = merged h slice so.content read.content

    deep : h.nly ≤ h.nlx
    deep = omega (arith, accepted.geometry.nly)

    earlier : SpellsEach (IsSlice h now) (upto slice) so.front
    earlier = slices_move h so.content now slice so.front accepted.geometry.hsl deep (λ k less. agree_before h slice k so.content read.content less) so.spelled

    last : IsSlice h now slice part
    last = slice_is_local h read.content now slice part accepted.geometry.hsl deep (agree_after h slice slice so.content read.content (omega arith)) read.spelled.1

    seam : get_or (slices ++ rows ∷ []) slice [] ≡ rows
    seam = ap (λ k. get_or (slices ++ rows ∷ []) k []) (sym so.number) ∙ get_or-append_seam slices rows [] []

    kept : (k : ℕ) → k < slice → get_or (slices ++ rows ∷ []) k [] ≡ get_or slices k []
    kept k less = let there : k < length slices = omega (arith, less, so.number) in get_or_append_left slices (rows ∷ []) [] k there

    lines : (k : ℕ) → k < slice + 1 → AreLinesOf h k (get_or (slices ++ rows ∷ []) k [])
    lines k there =
        elim (cases_lt k slice) [
          | inl less ↦ subst (AreLinesOf h k) (sym (kept k less)) (so.lines k less)
          | inr past ↦
              let same : slice ≡ k = omega (arith, there, past) in
              subst (λ j. AreLinesOf h j (get_or (slices ++ rows ∷ []) j [])) same (subst (AreLinesOf h slice) (sym seam) read.lines)
        ]

    small : (k : ℕ) → k < slice + 1 → HaveSmallRows (get_or (slices ++ rows ∷ []) k [])
    small k there =
        elim (cases_lt k slice) [
          | inl less ↦ subst HaveSmallRows (sym (kept k less)) (so.small k less)
          | inr past ↦
              let same : slice ≡ k = omega (arith, there, past) in
              subst (λ j. HaveSmallRows (get_or (slices ++ rows ∷ []) j [])) same
              (subst HaveSmallRows (sym seam) (spelled_small h read.content slice part rows accepted read.spelled.1 read.lines read.shown))
        ]

    shown : (band line column : ℕ) → band < bands_of h → line < band_height_of h band → line / slice_height h band < slice + 1
        → rows_of_slices h (slices ++ rows ∷ []) band line column ≡ dequantised_rows h now band line column
    shown band line column inside there within =
        let height = slice_height h band in
        elim (cases_lt (line / height) slice) [
          | inl less ↦
              ap (λ (s : List BandLines). entries_of (row_at s band line) column) (kept (line / height) less) ∙ so.shown band line column inside there less
              ∙ same_rows h so.content now band line column (line / height) (slice_of_line h band line) (agree_before h slice (line / height) so.content read.content less)
          | inr past ↦
              let here : line / height ≡ slice = omega (arith, within, past) in
              ap (λ k. entries_of (row_at (get_or (slices ++ rows ∷ []) k []) band line) column) here
              ∙ ap (λ (s : List BandLines). entries_of (row_at s band line) column) seam
              ∙ row_shown h read.content rows band line column read.shown (line_in_slice h slice rows band line accepted read.lines inside there here)
              ∙ same_rows h read.content now band line column (line / height) (slice_of_line h band line) (agree_after h slice (line / height) so.content read.content past)
        ]
