-- What a level holds after a row was taken, and at its beginning.
use Rattle.std.proofs.Common.{◌≡◌, ℕ, ◌+◌, ◌-◌, ◌<◌, ◌≤◌, List, length, ℤ, true, false, arith, sym, subst, ◌∙◌}
use Rattle.std.proofs.lemmas.Bool.{true≢false}
use Rattle.xs_signal.specs.Lines.{entries_of, Shows}
use Rattle.xs_signal.specs.Wavelet.{high_count, inverse_line}
use Rattle.xs_joiner.specs.Units.{BelowUnits}
use Rattle.xs_joiner.specs.Columns.{SameLine, IsColumns, HoldsLast}
use Rattle.xs_joiner.specs.Level.{IsLevel, IsSameLevel, HoldsRows, AreNext}
use Rattle.xs_joiner.specs.declared.level.Level.{Level}
use Rattle.xs_joiner.specs.declared.source.Band.{Band}
use Rattle.xs_joiner.specs.declared.source.Band.TheVariants.{Hl, Lh, Hh}

pub shows_by : (w : ℕ) (xs : List ℤ) (f g : ℕ → ℤ) → length xs ≡ w → Shows xs f → SameLine w g f → Shows xs g
shows_by w xs f g wide shown same j inside = shown j inside ∙ sym (same j (omega (arith, inside, wide)))

pub begun_rows : (start : ℕ) (t r : ℕ → ℕ → ℤ) (line : ℕ → ℤ) (l : Level) → l.columns.taken ≡ start → length l.columns.high ≡ l.columns.width → (l.deep ≡ true → 0 < start → Shows l.columns.high line)
    → (l.deep ≡ true → 0 < start → SameLine l.columns.width (r (start - 1)) line) → HoldsRows start t r l
begun_rows start t r line l taken wide shown same = record {
  last = λ deep. record {
    even = λ some. absurd (omega (arith, some, taken));
    odd = λ some. absurd (omega (arith, some, taken));
    high = λ some most.
        let positive : 0 < start = omega (arith, some, taken) in
        let place : start - 1 ≡ l.columns.taken - 1 = omega (arith, taken) in
        subst (λ k. Shows l.columns.high (r k)) place (shows_by l.columns.width l.columns.high line (r (start - 1)) wide (shown deep positive) (same deep positive));
  };
  flat = λ flat some. absurd (omega (arith, some, taken));
}

pub taken_deep : (start number : ℕ) (t r : ℕ → ℕ → ℤ) (row hl : List ℤ) (rows : Band → ℕ → List ℤ) (old mid new : Level) → IsLevel mid → mid.deep ≡ true → IsSameLevel old mid → mid.columns.taken ≡ old.columns.taken
    → (old.deep ≡ true → old.columns.taken < high_count old.columns.height → Shows mid.columns.spare (inverse_line old.columns.width (entries_of (rows (Lh number) old.columns.taken)) (entries_of (rows (Hh number) old.columns.taken))))
    → HoldsRows start t r mid → AreNext old row rows number t r → hl ≡ rows (Hl number) old.columns.taken → new.deep ≡ mid.deep
    → (HoldsLast start t r mid.columns → (mid.columns.taken < high_count mid.columns.height → Shows mid.columns.spare (r mid.columns.taken)) → SameLine mid.columns.width (t mid.columns.taken) (inverse_line mid.columns.width (entries_of row) (entries_of hl)) → HoldsLast start t r new.columns)
    → HoldsRows start t r new
taken_deep start number t r row hl rows old mid new s deep same count shown h next is_hl kept holds =
    let old_deep : old.deep ≡ true = sym same.deep ∙ deep in
    let k = old.columns.taken in
    let w = old.columns.width in
    let wide : mid.columns.width ≡ w = same.columns.width in
    let tall : mid.columns.height ≡ old.columns.height = same.columns.height in
    record {
      last = λ _. holds (h.last deep)
          (λ more.
          let inside : k < high_count old.columns.height = omega (arith, more, count, tall) in
          subst (λ j. Shows mid.columns.spare (r j)) (sym count) (shows_by w mid.columns.spare _ (r k) (s.columns.spare_width ∙ wide) (shown old_deep inside) (next.high old_deep inside)))
          (subst (λ v. SameLine v (t mid.columns.taken) (inverse_line v (entries_of row) (entries_of hl))) (sym wide)
          (subst (λ j. SameLine w (t j) (inverse_line w (entries_of row) (entries_of hl))) (sym count) (subst (λ xs. SameLine w (t k) (inverse_line w (entries_of row) (entries_of xs))) (sym is_hl) next.low)));
      flat = λ flat. absurd (true≢false (sym deep ∙ sym kept ∙ flat));
    }
