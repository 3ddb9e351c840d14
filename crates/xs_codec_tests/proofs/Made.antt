-- The lines of the slices that tests make.
use Rattle.std.proofs.Common.{◌≡◌, refl, ◌≢◌, ◌⊎◌, ℕ, zero, suc, ℤ, pos, ◌^◌, ◌+◌, ◌-◌, ◌*◌, ◌<◌, ◌≤◌, List, [], ◌∷◌, ◌++◌, length, get_or, sym, ap, subst, ◌∙◌, arith, inl, inr, length-append}
use Rattle.std.proofs.Math.ListN.{get_or-append}
use Rattle.std.specs.Prelude.{replicate, unsigned_abs}
use Rattle.std.proofs.lemmas.Bool.{cases_eq, cases_lt}
use Rattle.std.proofs.lemmas.List.{get_or-append_right, get_or_past}
use Rattle.std.proofs.Math.Nat.{mul-le-mul_right, mul_assoc}
use Rattle.xs_params.specs.declared.header.Header.{Header}
use Rattle.xs_params.specs.Geometry.{bands_of, precinct_lines, lines_of}
use Rattle.xs_signal.specs.Lines.{entries_of}
use Rattle.xs_rate.specs.Laws.{IsSmallRow}
use Rattle.xs_geometry.specs.SliceLines.{AreBlank, AreLinesOf, BandLines, HasLine, row_at, slice_height}
use Rattle.xs_geometry.specs.Laws.{IsWritten}
use Rattle.xs_geometry.specs.Written.{with_row}
use Rattle.xs_geometry.proofs.WrittenRows.{geometry_kept, lines_kept, row_written}
use Rattle.xs_params.specs.Geometry.{geometry_of}
use Rattle.xs_codec_tests.specs.Made.{IsMade}

-- a line of a precinct of a slice is one of the slice
pub line_made : (h : Header) (slice precinct band line : ℕ) (bands : List BandLines) → AreLinesOf h slice bands → band < bands_of h → slice * h.hsl ≤ precinct → precinct < (slice + 1) * h.hsl
    → (lines_of h precinct band).0 ≤ line → line < (lines_of h precinct band).1 → HasLine bands band line
line_made h slice precinct band line bands are there from to above below =
    let lines = precinct_lines h band in
    let first : slice * h.hsl * lines ≤ precinct * lines = mul-le-mul_right lines from in
    let next : precinct + 1 ≤ (slice + 1) * h.hsl = omega (arith, to) in
    let last : (precinct + 1) * lines ≤ (slice + 1) * h.hsl * lines = mul-le-mul_right lines next in
    let first_same : slice * h.hsl * lines ≡ slice * slice_height h band = mul_assoc slice h.hsl lines in
    let last_same : (slice + 1) * h.hsl * lines ≡ (slice + 1) * slice_height h band = mul_assoc (slice + 1) h.hsl lines in
    record {
      band_there = omega (arith, there, are.count);
      from = omega (arith, are.first band there, above, below, first, first_same);
      line_there = omega (arith, are.first band there, are.lines band there, above, below, last, last_same);
    }

-- Magnitudes

zeros : (n k : ℕ) → get_or (replicate n (pos 0)) k (pos 0) ≡ pos 0
zeros zero k = get_or_past {X = ℤ} [] k (pos 0) (omega arith)
zeros (suc n) zero = refl
zeros (suc n) (suc k) = zeros n k

-- rows of zeros
pub blank_made : (h : Header) (slice : ℕ) (bands : List BandLines) → AreLinesOf h slice bands → AreBlank bands → IsMade h slice bands
blank_made h slice bands lines blank = record {
  lines = lines;
  small = λ band line has column.
      let none = ap (λ l. entries_of l column) (blank.zero band line has) ∙ zeros (length (row_at bands band line)) column in
      subst (λ z. unsigned_abs z < 2 ^ 15) (sym none) (omega arith);
}

-- one more number of a row
pub small_push : (xs : List ℤ) (x : ℤ) → IsSmallRow (entries_of xs) → unsigned_abs x < 2 ^ 15 → IsSmallRow (entries_of (xs ++ x ∷ []))
small_push xs x before small column =
    elim (cases_lt column (length xs)) [
      | inl less ↦ subst (λ z. unsigned_abs z < 2 ^ 15) (sym (get_or-append xs (x ∷ []) (pos 0) column less)) (before column)
      | inr past ↦ elim (cases_eq column (length xs)) [
        | inl last ↦
            let none : column - length xs ≡ 0 = omega (arith, last) in
            subst (λ z. unsigned_abs z < 2 ^ 15) (sym (get_or-append_right xs (x ∷ []) (length xs) column (pos 0) refl past ∙ ap (λ i. get_or (x ∷ []) i (pos 0)) none)) small
        | inr other ↦
            let out : length (xs ++ x ∷ []) ≤ column = omega (arith, length-append xs (x ∷ []), past, other) in
            subst (λ z. unsigned_abs z < 2 ^ 15) (sym (get_or_past (xs ++ x ∷ []) column (pos 0) out)) (omega arith)
      ]
    ]

-- a row of small numbers is written
pub row_made : (h : Header) (slice : ℕ) (bands next : List BandLines) (band line : ℕ) (row : List ℤ) → HasLine bands band line → length row ≡ length (row_at bands band line) → IsSmallRow (entries_of row)
    → next ≡ with_row bands band line row → IsMade h slice bands → IsMade h slice next
row_made h slice bands next band line row there wide small is made = subst (IsMade h slice) (sym is) (record {
  lines = lines_kept h slice bands band line row made.lines there wide;
  small = λ b l has. at b l ((written.same_lines b l).0 has) (cases_eq b band) (cases_eq l line);
})
  where
    written : IsWritten bands band line row
    written = row_written bands band line row there

    kept : (b l : ℕ) → HasLine bands b l → (b ≢ band) ⊎ (l ≢ line) → IsSmallRow (entries_of (row_at (with_row bands band line row) b l))
    kept b l has apart = subst (λ r. IsSmallRow (entries_of r)) (sym (written.elsewhere b l has apart)) (made.small b l has)

    at : (b l : ℕ) → HasLine bands b l → (b ≡ band) ⊎ (b ≢ band) → (l ≡ line) ⊎ (l ≢ line) → IsSmallRow (entries_of (row_at (with_row bands band line row) b l))
    at b l has (inl same) (inl here) =
        subst (λ j. IsSmallRow (entries_of (row_at (with_row bands band line row) j l))) (sym same)
        (subst (λ k. IsSmallRow (entries_of (row_at (with_row bands band line row) band k))) (sym here) (subst (λ r. IsSmallRow (entries_of r)) (sym written.here) small))
    at b l has (inr other) place = kept b l has (inl other)
    at b l has (inl same) (inr other) = kept b l has (inr other)

-- the rows by the geometry of a header are those by the header
pub made_kept : (h : Header) (slice : ℕ) (bands : List BandLines) → IsMade (geometry_of h) slice bands → IsMade h slice bands
made_kept h slice bands made = record { lines = (geometry_kept h slice bands).0 made.lines; small = made.small }

-- one more slice
pub slices_more : (h : Header) (count : ℕ) (slices : List (List BandLines)) (rows : List BandLines) → length slices ≡ count → IsMade h count rows
    → ((slice : ℕ) → slice < count → IsMade h slice (get_or slices slice [])) → (slice : ℕ) → slice < count + 1 → IsMade h slice (get_or (slices ++ rows ∷ []) slice [])
slices_more h count slices rows size made before slice inside =
    elim (cases_eq slice count) [
      | inl last ↦
          let none : count - count ≡ 0 = omega arith in
          let there : get_or (slices ++ rows ∷ []) count [] ≡ rows = get_or-append_right slices (rows ∷ []) count count [] size (omega arith) ∙ ap (λ i. get_or (rows ∷ []) i []) none in
          subst (λ s. IsMade h s (get_or (slices ++ rows ∷ []) s [])) (sym last) (subst (IsMade h count) (sym there) made)
      | inr other ↦
          let less : slice < count = omega (arith, inside, other) in
          subst (IsMade h slice) (sym (get_or-append slices (rows ∷ []) [] slice (omega (arith, less, size)))) (before slice less)
    ]
