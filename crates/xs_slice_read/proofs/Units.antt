-- What is sent of a slice.
use Rattle.std.proofs.Common.{◌≡◌, ℕ, ◌+◌, ◌<◌, List, ◌++◌, take, drop, sym, ap, subst, ◌∙◌}
use Rattle.std.specs.Bool.{MatchBool}
use Rattle.std.specs.Prelude.{nat_eq, Result, Ok, Err, IfOk}
use Rattle.std.proofs.lemmas.Bool.{eq-eqb, ne_eqb}
use Rattle.std.proofs.lemmas.List.{take-append-drop}
use Rattle.xs_lists.specs.Packing.{AreBytes}
use Rattle.xs_params.specs.declared.header.Header.{Header}
use Rattle.xs_params.specs.Accepted.{IsAccepted}
use Rattle.xs_params.specs.Geometry.{slice_count}
use Rattle.xs_params.specs.Markers.{eoc}
use Rattle.xs_geometry.specs.SliceLines.{AreLinesOf, BandLines, ShowRows}
use Rattle.xs_grammar.specs.Precinct.{Content}
use Rattle.xs_grammar.specs.Slice.{IsSlice, IsSliceUnit}
use Rattle.xs_reading.specs.Rows.{dequantised_rows}
use Rattle.xs_reading.proofs.Whole.{slices_known}
use Rattle.xs_slice_read.specs.Read.{IsFrontRead, IsSliceRead}
use Rattle.xs_slice_read.specs.Unit.{IsUnitRead}

unit_read : (h : Header) (slice : ℕ) (rows : List BandLines) (bytes : List ℕ) → IsAccepted h → slice < slice_count h → AreBytes bytes → (content : Content) → IsSliceUnit h content slice bytes → AreLinesOf h slice rows
    → ShowRows h (dequantised_rows h content) rows → IsUnitRead h slice rows bytes
unit_read h slice rows bytes accepted there are content spelled lines shown = record {
  no_fault = (slices_known h slice bytes accepted there are).unit.1 (content, spelled);
  content = content;
  spelled = spelled;
  lines = lines;
  shown = shown;
}

-- the last slice, and the end of the codestream
pub last_read : (h : Header) (slice : ℕ) (rows : List BandLines) (bytes : List ℕ) (n : ℕ) → IsAccepted h → slice < slice_count h → AreBytes bytes → slice + 1 ≡ slice_count h → IsFrontRead h slice rows bytes n → drop n bytes ≡ eoc
    → IsUnitRead h slice rows bytes
last_read h slice rows bytes n accepted there are last read marker =
    unit_read h slice rows bytes accepted there are read.content
    (subst (λ b. MatchBool b ((front : List ℕ) × (bytes ≡ front ++ eoc) × IsSlice h read.content slice front) (IsSlice h read.content slice bytes)) (sym (eq-eqb (slice + 1) (slice_count h) last))
    (take n bytes, sym (take-append-drop n bytes) ∙ ap (λ l. take n bytes ++ l) marker, read.spelled.1)) read.lines read.shown

-- another slice
pub other_read : (h : Header) (slice : ℕ) (rows : List BandLines) (bytes : List ℕ) → IsAccepted h → slice < slice_count h → AreBytes bytes → (slice + 1 ≡ slice_count h → ⊥) → IsSliceRead h slice rows bytes → IsUnitRead h slice rows bytes
other_read h slice rows bytes accepted there are other read =
    unit_read h slice rows bytes accepted there are read.content
    (subst (λ b. MatchBool b ((front : List ℕ) × (bytes ≡ front ++ eoc) × IsSlice h read.content slice front) (IsSlice h read.content slice bytes)) (sym (ne_eqb (slice + 1) (slice_count h) other)) read.spelled) read.lines read.shown

pub if_ok : {A E : Type 0} (r : Result A E) (P Q : A → Type 0) → ((x : A) → P x → Q x) → IfOk r P → IfOk r Q
if_ok (Ok x) P Q f p = f x p
if_ok (Err e) P Q f p = tt
