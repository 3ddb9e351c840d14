-- What a row that was written changes.
use Rattle.std.proofs.Common.{◌≡◌, ◌≢◌, ◌↔◌, ℕ, ◌+◌, ◌-◌, ◌<◌, ◌≤◌, ℤ, List, [], length, get_or, refl, sym, ap, subst, ◌∙◌, arith, inl, inr, length-set, get_or-set_other}
use Rattle.std.proofs.lemmas.Bool.{cases_eq}
use Rattle.std.proofs.lemmas.Grind.{get_or-set_at}
use Rattle.xs_params.specs.Geometry.{band_width_of}
use Rattle.xs_geometry.specs.SliceLines.{BandLines, no_lines, lines_at, row_at, HasLine, first_line_of}
use Rattle.xs_geometry.specs.Written.{with_line, with_row}
use Rattle.xs_geometry.specs.Laws.{RowWritten, LinesKept, AcceptedRanges, GeometryKept}

-- the lines of the band, and those of another
lines_here : (bands : List BandLines) (band line : ℕ) (row : List ℤ) → band < length bands → lines_at (with_row bands band line row) band ≡ with_line (lines_at bands band) line row
lines_here bands band line row inside = get_or-set_at bands band band (with_line (lines_at bands band) line row) no_lines refl inside

lines_other : (bands : List BandLines) (band line : ℕ) (row : List ℤ) (b : ℕ) → b ≢ band → lines_at (with_row bands band line row) b ≡ lines_at bands b
lines_other bands band line row b other = get_or-set_other bands band b (with_line (lines_at bands band) line row) no_lines other

-- the first line and the number of rows stay
same_first : (bands : List BandLines) (band line : ℕ) (row : List ℤ) → band < length bands → (b : ℕ) → (lines_at (with_row bands band line row) b).first ≡ (lines_at bands b).first
same_first bands band line row inside b =
    elim (cases_eq b band) [
      | inl here ↦ subst (λ k. (lines_at (with_row bands band line row) k).first ≡ (lines_at bands k).first) (sym here) (ap (λ (l : BandLines). l.first) (lines_here bands band line row inside))
      | inr other ↦ ap (λ (l : BandLines). l.first) (lines_other bands band line row b other)
    ]

same_count : (bands : List BandLines) (band line : ℕ) (row : List ℤ) → band < length bands → (b : ℕ) → length (lines_at (with_row bands band line row) b).rows ≡ length (lines_at bands b).rows
same_count bands band line row inside b =
    elim (cases_eq b band) [
      | inl here ↦ subst (λ k. length (lines_at (with_row bands band line row) k).rows ≡ length (lines_at bands k).rows) (sym here)
          (ap (λ (l : BandLines). length l.rows) (lines_here bands band line row inside) ∙ length-set (lines_at bands band).rows (line - (lines_at bands band).first) row)
      | inr other ↦ ap (λ (l : BandLines). length l.rows) (lines_other bands band line row b other)
    ]

same_bands : (bands : List BandLines) (band line : ℕ) (row : List ℤ) → length (with_row bands band line row) ≡ length bands
same_bands bands band line row = length-set bands band (with_line (lines_at bands band) line row)

same_lines : (bands : List BandLines) (band line : ℕ) (row : List ℤ) → band < length bands → (b l : ℕ) → HasLine (with_row bands band line row) b l ↔ HasLine bands b l
same_lines bands band line row inside b l =
    let size = same_bands bands band line row in
    let first = same_first bands band line row inside b in
    let count = same_count bands band line row inside b in (
      (λ has. record { band_there = omega (arith, has.band_there, size); from = omega (arith, has.from, first); line_there = omega (arith, has.line_there, first, count) }),
      (λ has. record { band_there = omega (arith, has.band_there, size); from = omega (arith, has.from, first); line_there = omega (arith, has.line_there, first, count) }),
    )

pub row_written : RowWritten
row_written bands band line row there = record {
  same_lines = same_lines bands band line row there.band_there;
  here =
      let rows = (lines_at bands band).rows in
      let at = line - (lines_at bands band).first in
      ap (λ (l : BandLines). get_or l.rows (line - l.first) []) (lines_here bands band line row there.band_there) ∙ get_or-set_at rows at at row [] refl (omega (arith, there.from, there.line_there));
  elsewhere = λ b l has apart.
      elim (cases_eq b band) [
        | inr other ↦ ap (λ (r : BandLines). get_or r.rows (l - r.first) []) (lines_other bands band line row b other)
        | inl here ↦
            let rows = (lines_at bands band).rows in
            let first = (lines_at bands band).first in
            let from : first ≤ l = subst (λ k. (lines_at bands k).first ≤ l) here has.from in
            let other : l ≢ line = elim apart [ inl bands_apart ↦ absurd (bands_apart here) | inr lines_apart ↦ lines_apart ] in
            let apart : l - first ≢ line - first = λ e. other (omega (arith, e, from, there.from)) in
            subst (λ k. row_at (with_row bands band line row) k l ≡ row_at bands k l) (sym here)
            (ap (λ (r : BandLines). get_or r.rows (l - r.first) []) (lines_here bands band line row there.band_there) ∙ get_or-set_other rows (line - first) (l - first) row [] apart)
      ];
}

pub lines_kept : LinesKept
lines_kept h slice bands band line row are there whole =
    let written = row_written bands band line row there in
    record {
      count = same_bands bands band line row ∙ are.count;
      first = λ b less. same_first bands band line row there.band_there b ∙ are.first b less;
      lines = λ b less. ap (λ n. first_line_of h slice b + n) (same_count bands band line row there.band_there b) ∙ are.lines b less;
      width = λ b l has.
          let before = (written.same_lines b l).0 has in
          elim (cases_eq b band) [
            | inr other ↦ ap length (written.elsewhere b l before (inl other)) ∙ are.width b l before
            | inl same ↦ elim (cases_eq l line) [
              | inr other ↦ ap length (written.elsewhere b l before (inr other)) ∙ are.width b l before
              | inl here ↦ subst (λ k. length (row_at (with_row bands band line row) k l) ≡ band_width_of h k) (sym same)
                  (subst (λ k. length (row_at (with_row bands band line row) band k) ≡ band_width_of h band) (sym here) (ap length written.here ∙ whole ∙ are.width band line there))
            ]
          ];
    }

pub accepted_ranges : AcceptedRanges
accepted_ranges h accepted =
    let g = accepted.geometry in
    (g, record { shape = g.shape; hsl = g.hsl; nlx = g.nlx; nly = g.nly; slices = g.slices; narrow = g.narrow })

pub geometry_kept : GeometryKept
geometry_kept h slice bands = (
  (λ are. record { count = are.count; first = are.first; lines = are.lines; width = are.width }),
  (λ are. record { count = are.count; first = are.first; lines = are.lines; width = are.width }),
)
