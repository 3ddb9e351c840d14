-- A line of a slice's rows that was counted, and then quantised.
use Rattle.std.proofs.Common.{◌≡◌, ℕ, ℤ, ◌+◌, ◌-◌, ◌*◌, ◌%◌, ◌<◌, ◌≤◌, List, length, sym, ap, subst, ◌∙◌, arith, inl, inr}
use Rattle.std.specs.Prelude.{true, false, not, nat_eq}
use Rattle.std.proofs.lemmas.Bool.{cases_eq, eq-eqb, ne_eqb, false≢true}
use Rattle.std.proofs.lemmas.Nat.{mod-mul-add}
use Rattle.xs_layout.specs.declared.Candidate.{Candidate}
use Rattle.xs_layout.specs.Geometry.{groups_of}
use Rattle.xs_layout.specs.Weighting.{truncation_of}
use Rattle.xs_params.specs.declared.header.Header.{Header}
use Rattle.xs_params.specs.Geometry.{band_width_of, bands_of}
use Rattle.xs_signal.specs.Lines.{entries_of}
use Rattle.xs_geometry.specs.SliceLines.{BandLines, HasLine, AreLinesOf, lines_at, row_at, rows_held, slice_height}
use Rattle.xs_grammar.specs.Precinct.{coded_line, is_first_line, weight_of}
use Rattle.xs_rate.specs.Chosen.{content_at}
use Rattle.xs_planes.specs.Numbers.{AreNumbers}
use Rattle.xs_precinct_write.specs.Outgoing.{Outgoing, IsCounted, IsSentAs, counts_cut, values_sent}
use Rattle.xs_precinct_write.proofs.Alike.{sent_as}
use Rattle.xs_precinct_write.proofs.Sending.{length_cut}

-- The first line of a slice

first_line : (h : Header) (slice : ℕ) (bands : List BandLines) (band line : ℕ) → AreLinesOf h slice bands → HasLine bands band line → is_first_line h band line ≡ nat_eq line (lines_at bands band).first
first_line h slice bands band line are has =
    let size = slice_height h band in
    let there : band < bands_of h = omega (arith, has.band_there, are.count) in
    let first = are.first band there in
    let end = are.lines band there in
    let next : (slice + 1) * size ≡ slice * size + size = omega arith in
    let low : slice * size ≤ line = omega (arith, has.from, first, has.line_there, end) in
    let rest : line - slice * size < size = omega (arith, low, has.line_there, first, end, next) in
    let back : slice * size + (line - slice * size) ≡ line = omega (arith, low) in
    let left : line % size ≡ line - slice * size = sym (ap (λ n. n % size) back) ∙ mod-mul-add slice size (line - slice * size) rest in
    ap (λ n. nat_eq n 0) left ∙ same (line - slice * size) (lines_at bands band).first has.from (omega (arith, first, has.from, low, has.line_there, end))
  where
    same : (n first : ℕ) → first ≤ line → n ≡ line - first → nat_eq n 0 ≡ nat_eq line first
    same n first from e = elim (cases_eq line first) [
      | inl here ↦ eq-eqb n 0 (omega (arith, e, here)) ∙ sym (eq-eqb line first here)
      | inr past ↦ ne_eqb n 0 (λ none. past (omega (arith, e, none, from))) ∙ sym (ne_eqb line first past)
    ]

pub is_first : (h : Header) (slice : ℕ) (bands : List BandLines) (band line : ℕ) → AreLinesOf h slice bands → HasLine bands band line → line ≤ (lines_at bands band).first → is_first_line h band line ≡ true
is_first h slice bands band line are has low = first_line h slice bands band line are has ∙ eq-eqb line (lines_at bands band).first (omega (arith, low, has.from))

pub is_later : (h : Header) (slice : ℕ) (bands : List BandLines) (band line : ℕ) → AreLinesOf h slice bands → HasLine bands band line → (lines_at bands band).first < line → is_first_line h band line ≡ false
is_later h slice bands band line are has high = first_line h slice bands band line are has ∙ ne_eqb line (lines_at bands band).first (λ same. absurd (omega (arith, same, high)))

-- Counted

pub counted_first : (h : Header) (bands : List BandLines) (candidate : Candidate) (band line t : ℕ) (row : List ℤ) (old new : Outgoing)
    → new ≡ record old { cut = t; there = false; counts = counts_cut t (entries_of row) (length old.counts) }
    → t ≡ truncation_of candidate.q candidate.r (weight_of h band) → row ≡ row_at bands band line → length old.counts ≡ groups_of (band_width_of h band) → is_first_line h band line ≡ true
    → IsCounted h (rows_held bands) candidate band line new
counted_first h bands candidate band line t row old new e cut same size first = subst (IsCounted h (rows_held bands) candidate band line) (sym e) (record {
  cut = cut;
  counts = ap (λ r. counts_cut t (entries_of r) (length old.counts)) same ∙ ap (counts_cut t (rows_held bands band line)) size;
  there = ap not (sym first);
  above = λ there. absurd (false≢true there);
})

pub counted_next : (h : Header) (bands : List BandLines) (candidate : Candidate) (band line t : ℕ) (row above : List ℤ) (old now new : Outgoing)
    → now ≡ record old { cut = t; there = false; counts = counts_cut t (entries_of row) (length old.counts) }
    → new ≡ record now { there = true; above = counts_cut now.cut (entries_of above) (length now.counts) }
    → t ≡ truncation_of candidate.q candidate.r (weight_of h band) → row ≡ row_at bands band line → above ≡ row_at bands band (line - 1)
    → length old.counts ≡ groups_of (band_width_of h band) → is_first_line h band line ≡ false
    → IsCounted h (rows_held bands) candidate band line new
counted_next h bands candidate band line t row above old now new e f cut same over size first =
    subst (IsCounted h (rows_held bands) candidate band line) (sym (f ∙ ap (λ (x : Outgoing). record x { there = true; above = counts_cut x.cut (entries_of above) (length x.counts) }) e)) (record {
      cut = cut;
      counts = ap (λ r. counts_cut t (entries_of r) (length old.counts)) same ∙ ap (counts_cut t (rows_held bands band line)) size;
      there = ap not (sym first);
      above = λ there. ap (λ r. counts_cut t (entries_of r) (length (counts_cut t (entries_of row) (length old.counts)))) over
          ∙ ap (counts_cut t (rows_held bands band (line - 1))) (length_cut (entries_of row) t (length old.counts) ∙ size);
    })

pub counted_length : (h : Header) (bands : List BandLines) (candidate : Candidate) (band line : ℕ) (o : Outgoing) → IsCounted h (rows_held bands) candidate band line o → length o.counts ≡ groups_of (band_width_of h band)
counted_length h bands candidate band line o is = ap length is.counts ∙ length_cut (rows_held bands band line) o.cut (groups_of (band_width_of h band))

-- its counts are those of the row
pub counted_row : (h : Header) (bands : List BandLines) (candidate : Candidate) (band line : ℕ) (o : Outgoing) (row : List ℤ) → IsCounted h (rows_held bands) candidate band line o → row ≡ row_at bands band line
    → o.counts ≡ counts_cut o.cut (entries_of row) (length o.counts)
counted_row h bands candidate band line o row is same =
    is.counts ∙ ap (counts_cut o.cut (rows_held bands band line)) (sym (counted_length h bands candidate band line o is)) ∙ ap (λ r. counts_cut o.cut (entries_of r) (length o.counts)) (sym same)

-- Quantised

pub sent_from : (h : Header) (bands : List BandLines) (candidate : Candidate) (band line mode : ℕ) (now new : Outgoing) (row : List ℤ) → IsCounted h (rows_held bands) candidate band line now → now.mode ≡ mode
    → row ≡ row_at bands band line → new ≡ record now { values = values_sent h.quant now.cut (entries_of row) (4 * length now.counts) } → AreNumbers new.cut new.counts new.values
    → IsSentAs (coded_line h (content_at h (rows_held bands) candidate) mode band line) new
sent_from h bands candidate band line mode now new row is moded same e numbers =
    sent_as h (rows_held bands) candidate band line mode new
    (subst (IsCounted h (rows_held bands) candidate band line) (sym e) (record { cut = is.cut; counts = is.counts; there = is.there; above = is.above }))
    (ap (λ (x : Outgoing). x.mode) e ∙ moded)
    (subst (λ (x : Outgoing). x.values ≡ values_sent h.quant x.cut (rows_held bands band line) (4 * length x.counts)) (sym e) (ap (λ r. values_sent h.quant now.cut (entries_of r) (4 * length now.counts)) same))
    numbers
