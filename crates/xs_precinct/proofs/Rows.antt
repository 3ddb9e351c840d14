-- Rows that are put in place band by band.
use Rattle.std.proofs.Common.{◌≡◌, ◌≢◌, ℕ, ◌+◌, ◌<◌, ◌≤◌, List, length, get_or, refl, sym, subst, ◌∙◌, arith, inl, inr, ◌⊎◌}
use Rattle.std.specs.Prelude.{Bool, true, false, nat_lt, ◌↔◌, ℤ}
use Rattle.std.proofs.lemmas.Bool.{ltb-true, ltb-false, cases_eq}
use Rattle.xs_layout.specs.declared.Quant.{Quant}
use Rattle.xs_params.specs.declared.header.Header.{Header}
use Rattle.xs_geometry.specs.SliceLines.{BandLines, AreLinesOf, HasLine, row_at}
use Rattle.xs_geometry.specs.Written.{with_row}
use Rattle.xs_geometry.specs.Laws.{IsWritten}
use Rattle.xs_geometry.proofs.WrittenRows.{row_written, lines_kept}
use Rattle.xs_precinct.specs.Bands.{Band, no_band, row_of}

-- the first k bands of those that begin with a number have their rows
pub record PutSoFar (kind : Quant) (init rows : List BandLines) (bands : List Band) (first line k : ℕ) : Type 0 where
  pub kept : (h : Header) (slice : ℕ) → AreLinesOf h slice init → AreLinesOf h slice rows
  pub same_lines : (band other : ℕ) → HasLine rows band other ↔ HasLine init band other
  pub here : (i : ℕ) → i < k → row_at rows (first + i) line ≡ row_of kind (get_or bands i no_band) (length (row_at init (first + i) line))
  pub later : (i : ℕ) → k ≤ i → HasLine init (first + i) line → row_at rows (first + i) line ≡ row_at init (first + i) line
  pub elsewhere : (band other : ℕ) → HasLine init band other → ((i : ℕ) → i < length bands → first + i ≡ band → other ≢ line) → row_at rows band other ≡ row_at init band other

pub none_put : (kind : Quant) (init : List BandLines) (bands : List Band) (first line : ℕ) → PutSoFar kind init init bands first line 0
none_put kind init bands first line = record {
  kept = λ h slice p. p;
  same_lines = λ band other. (λ p. p, λ p. p);
  here = λ i below. absurd (omega (arith, below));
  later = λ i past p. refl;
  elsewhere = λ band other p apart. refl;
}

pub put_more : (kind : Quant) (init rows : List BandLines) (bands : List Band) (first line k : ℕ) (row : List ℤ) → PutSoFar kind init rows bands first line k → k < length bands
    → ((i : ℕ) → i < length bands → HasLine init (first + i) line) → row ≡ row_of kind (get_or bands k no_band) (length (row_at init (first + k) line)) → length row ≡ length (row_at rows (first + k) line)
    → PutSoFar kind init (with_row rows (first + k) line row) bands first line (k + 1)
put_more kind init rows bands first line k row so inside there values size = record {
  kept = λ h slice p. lines_kept h slice rows (first + k) line row (so.kept h slice p) here size;
  same_lines = λ b o. (λ p. (so.same_lines b o).0 ((written.same_lines b o).0 p), λ p. (written.same_lines b o).1 ((so.same_lines b o).1 p));
  here = λ i below. at i below (nat_lt i k) refl;
  later = λ i past p.
      let other : first + i ≢ first + k = λ e. absurd (omega (arith, past, e)) in
      written.elsewhere (first + i) line ((so.same_lines (first + i) line).1 p) (inl other) ∙ so.later i (omega (arith, past)) p;
  elsewhere = λ b o p other. written.elsewhere b o ((so.same_lines b o).1 p) (apart b o other (cases_eq (first + k) b)) ∙ so.elsewhere b o p other;
}
  where
    here : HasLine rows (first + k) line
    here = (so.same_lines (first + k) line).1 (there k inside)

    written : IsWritten rows (first + k) line row
    written = row_written rows (first + k) line row here

    apart : (b o : ℕ) → ((i : ℕ) → i < length bands → first + i ≡ b → o ≢ line) → (first + k ≡ b) ⊎ (first + k ≢ b) → (b ≢ first + k) ⊎ (o ≢ line)
    apart b o other (inl e) = inr (other k inside e)
    apart b o other (inr d) = inl (λ e. d (sym e))

    at : (i : ℕ) → i < k + 1 → (t : Bool) → nat_lt i k ≡ t → row_at (with_row rows (first + k) line row) (first + i) line ≡ row_of kind (get_or bands i no_band) (length (row_at init (first + i) line))
    at i below true e =
        let less = ltb-true i k e in
        let other : first + i ≢ first + k = λ same. absurd (omega (arith, less, same)) in
        written.elsewhere (first + i) line ((so.same_lines (first + i) line).1 (there i (omega (arith, less, inside)))) (inl other) ∙ so.here i less
    at i below false e =
        let past = ltb-false i k e in
        let same : k ≡ i = omega (arith, below, past) in
        subst (λ b. row_at (with_row rows (first + k) line row) (first + b) line ≡ row_of kind (get_or bands b no_band) (length (row_at init (first + b) line))) same (written.here ∙ values)
