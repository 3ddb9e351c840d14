-- Small rows.
use Rattle.std.proofs.Common.{◌≡◌, ℕ, zero, suc, ℤ, ◌+◌, ◌-◌, ◌<◌, ◌^◌, List, [], ◌∷◌, ◌++◌, length, get_or, sym, subst, arith, inl, inr}
use Rattle.std.specs.Prelude.{negsuc, pos, replicate, unsigned_abs}
use Rattle.std.proofs.lemmas.Bool.{cases_eq, cases_lt}
use Rattle.std.proofs.lemmas.List.{get_or_append_left, get_or_past, length-append}
use Rattle.std.proofs.Math.Facts.{to_z_pos, to_z-neg}
use Rattle.std.proofs.Math.Seq.{get_or-append_seam}
use Rattle.xs_geometry.specs.SliceLines.{AreBlank, BandLines, HasLine, lines_at, no_lines, row_at, rows_held}
use Rattle.xs_geometry.specs.Written.{with_row}
use Rattle.xs_geometry.proofs.WrittenRows.{row_written}
use Rattle.xs_signal.specs.Lines.{entries_of}
use Rattle.xs_rate.specs.Laws.{AreSmall, IsSmallRow}
use Rattle.xs_choice_bench.specs.Drawn.{AreSmallLines}
use mir.Syntax.{w32}
use mir.Val.{of_z, to_z}

zero_small : (z : ℤ) → z ≡ pos 0 → unsigned_abs z < 2 ^ 15
zero_small z none = subst (λ (y : ℤ). unsigned_abs y < 2 ^ 15) (sym none) (omega arith)

zeros_small : (n : ℕ) → IsSmallRow (entries_of (replicate n (pos 0)))
zeros_small zero column = omega arith
zeros_small (suc n) zero = omega arith
zeros_small (suc n) (suc column) = zeros_small n column

-- rows of zeros
pub blank_small : (bands : List BandLines) → AreBlank bands → AreSmallLines bands
blank_small bands blank band line has = subst (λ row. IsSmallRow (entries_of row)) (sym (blank.zero band line has)) (zeros_small (length (row_at bands band line)))

-- a small number is small as its 32 bits are read
pub read_small : (z : ℤ) → unsigned_abs z < 2 ^ 15 → unsigned_abs (to_z w32 (of_z w32 z)) < 2 ^ 15
read_small (pos n) small = subst (λ (y : ℤ). unsigned_abs y < 2 ^ 15) (sym (to_z_pos w32 (omega (arith, small)))) small
read_small (negsuc n) small = subst (λ (y : ℤ). unsigned_abs y < 2 ^ 15) (sym (to_z-neg w32 n (omega (arith, small)))) small

-- one more number of a row
pub small_more : (row : List ℤ) (z : ℤ) → IsSmallRow (entries_of row) → unsigned_abs z < 2 ^ 15 → IsSmallRow (entries_of (row ++ z ∷ []))
small_more row z small own column = elim (cases_lt column (length row)) [
  | inl inside ↦ subst (λ (y : ℤ). unsigned_abs y < 2 ^ 15) (sym (get_or_append_left row (z ∷ []) (pos 0) column inside)) (small column)
  | inr past ↦ elim (cases_eq column (length row)) [
    | inl last ↦ subst (λ k. unsigned_abs (entries_of (row ++ z ∷ []) k) < 2 ^ 15) (sym last) (subst (λ (y : ℤ). unsigned_abs y < 2 ^ 15) (sym (get_or-append_seam row z [] (pos 0))) own)
    | inr other ↦ zero_small _ (get_or_past (row ++ z ∷ []) column (pos 0) (omega (arith, past, other, length-append row (z ∷ []))))
  ]
]

-- one more row
pub row_more : (bands new : List BandLines) (band line : ℕ) (row : List ℤ) → HasLine bands band line → new ≡ with_row bands band line row → IsSmallRow (entries_of row) → AreSmallLines bands → AreSmallLines new
row_more bands new band line row there put own small = subst AreSmallLines (sym put) each
  where
    each : AreSmallLines (with_row bands band line row)
    each b l has =
        let written = row_written bands band line row there in
        let before = (written.same_lines b l).0 has in
        elim (cases_eq b band) [
          | inr other ↦ subst (λ r. IsSmallRow (entries_of r)) (sym (written.elsewhere b l before (inl other))) (small b l before)
          | inl same ↦ elim (cases_eq l line) [
            | inr other ↦ subst (λ r. IsSmallRow (entries_of r)) (sym (written.elsewhere b l before (inr other))) (small b l before)
            | inl here ↦ subst (λ k. IsSmallRow (entries_of (row_at (with_row bands band line row) k l))) (sym same)
                (subst (λ k. IsSmallRow (entries_of (row_at (with_row bands band line row) band k))) (sym here) (subst (λ r. IsSmallRow (entries_of r)) (sym written.here) own))
          ]
        ]

-- a line that was there is there
pub line_stays : (bands new : List BandLines) (band line l : ℕ) (row : List ℤ) → HasLine bands band line → new ≡ with_row bands band line row → HasLine bands band l → HasLine new band l
line_stays bands new band line l row there put has = subst (λ b. HasLine b band l) (sym put) (((row_written bands band line row there).same_lines band l).1 has)

-- where there is no row there are zeros
pub all_small : (bands : List BandLines) → AreSmallLines bands → AreSmall (rows_held bands)
all_small bands small band line = elim (cases_lt band (length bands)) [
  | inl there ↦ elim (cases_lt (line - first) (length rows)) [
    | inl inside ↦
        let back : first + (line - first) - first ≡ line - first = omega arith in
        subst (λ k. IsSmallRow (entries_of (get_or rows k []))) back (small band (first + (line - first)) (record { band_there = there; from = omega arith; line_there = omega (arith, inside) }))
    | inr past ↦ subst (λ r. IsSmallRow (entries_of r)) (sym (get_or_past rows (line - first) [] past)) (zeros_small 0)
  ]
  | inr gone ↦
      let none : lines_at bands band ≡ no_lines = get_or_past bands band no_lines gone in
      subst (λ (lines : BandLines). IsSmallRow (entries_of (get_or lines.rows (line - lines.first) []))) (sym none) (zeros_small 0)
]
  where
    first : ℕ
    first = (lines_at bands band).first

    rows : List (List ℤ)
    rows = (lines_at bands band).rows
