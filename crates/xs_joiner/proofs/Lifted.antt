-- Rows that were lifted are the rows of the definition.
use Rattle.std.proofs.Common.{◌≡◌, ℕ, ◌+◌, ◌-◌, ◌*◌, ◌/◌, ◌<◌, ◌≤◌, min, List, length, ℤ, pos, ◌+ℤ◌, ◌-ℤ◌, arith, ap, sym, subst, ◌∙◌, inl, inr}
use Rattle.std.proofs.lemmas.Bool.{cases_lt}
use Rattle.std.specs.Int.{int_shr}
use Rattle.xs_signal.proofs.LineLaws.{at_even, at_odd}
use Rattle.xs_signal.specs.Lines.{entries_of, column_of, Shows}
use Rattle.xs_signal.specs.Wavelet.{low_count, high_count}
use Rattle.xs_joiner.specs.Units.{BelowUnits}
use Rattle.xs_joiner.specs.Columns.{joined_rows, even_rows, odd_rows, SameLine, IsColumns, HoldsLast, IsSameColumns, IsKnown}
use Rattle.xs_joiner.specs.declared.columns.Columns.{Columns}

pub shows_at : (xs : List ℤ) (p : ℕ → ℕ → ℤ) (i j : ℕ) → i ≡ j → Shows xs (p i) → Shows xs (p j)
shows_at xs p i j same shown = subst (λ k. Shows xs (p k)) same shown

pub shows_same : (xs ys : List ℤ) (line : ℕ → ℤ) → xs ≡ ys → Shows ys line → Shows xs line
shows_same xs ys line same shown = subst (λ l. Shows l line) (sym same) shown

-- the even row k, between the high-pass rows above and below, which are mirrored at both ends
pub even_shown : (h k w : ℕ) (t r : ℕ → ℕ → ℤ) (line : ℕ → ℤ) (above below new : List ℤ) → length new ≡ w → length above ≡ w → length below ≡ w → SameLine w (t k) line → Shows above (r (k - 1)) → Shows below (r (min k (high_count h - 1)))
    → Shows new (λ j. line j -ℤ int_shr (entries_of above j +ℤ entries_of below j +ℤ pos 2) 2) → Shows new (even_rows h t r k)
even_shown h k w t r line above below new wn wa wb same sa sb shown j inside =
    let e1 = same j (omega (arith, inside, wn)) in
    let e2 = sa j (omega (arith, inside, wn, wa)) in
    let e3 = sb j (omega (arith, inside, wn, wb)) in
    let e5 = shown j inside in
    cc

-- the odd row k, between the even rows above and below, of which the last stands again past the end
pub odd_shown : (h k w : ℕ) (t r : ℕ → ℕ → ℤ) (high above below new : List ℤ) → length new ≡ w → length high ≡ w → length above ≡ w → length below ≡ w → Shows high (r k) → Shows above (even_rows h t r k) → Shows below (even_rows h t r (min (k + 1) (low_count h - 1)))
    → Shows new (λ j. entries_of high j +ℤ int_shr (entries_of above j +ℤ entries_of below j) 1) → Shows new (odd_rows h t r k)
odd_shown h k w t r high above below new wn wh wa wb sh sa sb shown j inside =
    let e1 = sh j (omega (arith, inside, wn, wh)) in
    let e2 = sa j (omega (arith, inside, wn, wa)) in
    let e3 = sb j (omega (arith, inside, wn, wb)) in
    let e5 = shown j inside in
    cc

-- a row of the joined plane is an even or an odd one
pub even_row : (h k number : ℕ) (t r : ℕ → ℕ → ℤ) (xs : List ℤ) → number ≡ 2 * k → Shows xs (even_rows h t r k) → Shows xs (joined_rows h t r number)
even_row h k number t r xs place shown j inside =
    let half : k ≡ number / 2 = omega (arith, place) in
    shown j inside ∙ ap (λ i. even_rows h t r i j) half ∙ sym (at_even h (column_of t j) (column_of r j) number (omega (arith, place)))

pub odd_row : (h k number : ℕ) (t r : ℕ → ℕ → ℤ) (xs : List ℤ) → number ≡ 2 * k + 1 → Shows xs (odd_rows h t r k) → Shows xs (joined_rows h t r number)
odd_row h k number t r xs place shown j inside =
    let half : k ≡ number / 2 = omega (arith, place) in
    shown j inside ∙ ap (λ i. odd_rows h t r i j) half ∙ sym (at_odd h (column_of t j) (column_of r j) number (omega (arith, place)))

-- ---- a low-pass row is taken

pub through : (line : ℕ → ℤ) (joined above below new : List ℤ) → length joined ≡ length new → Shows joined line
    → Shows new (λ j. entries_of joined j -ℤ int_shr (entries_of above j +ℤ entries_of below j +ℤ pos 2) 2) → Shows new (λ j. line j -ℤ int_shr (entries_of above j +ℤ entries_of below j +ℤ pos 2) 2)
through line joined above below new same shown lifted j inside =
    let e1 = shown j (omega (arith, inside, same)) in
    let e2 = lifted j inside in
    cc

-- what stands above and below after mirroring
pub record IsMirrored (old new : Columns) : Type 0 where
  pub same : IsSameColumns old new
  pub taken : new.taken ≡ old.taken
  pub even : new.even ≡ old.even
  pub odd : new.odd ≡ old.odd
  pub inside : old.taken < high_count old.height → new.spare ≡ old.spare
  pub below : high_count old.height ≤ old.taken → new.spare ≡ old.high
  pub first : old.taken ≡ 0 → new.high ≡ old.spare
  pub later : 0 < old.taken → new.high ≡ old.high

spare_cases : (old mid : Columns) (P : List ℤ → Type 0) → IsMirrored old mid → (old.taken < high_count old.height → P old.spare) → P old.high → P mid.spare
spare_cases old mid P m spare high =
    elim (cases_lt old.taken (high_count old.height)) [
      | inl more ↦ subst P (sym (m.inside more)) (spare more)
      | inr past ↦ subst P (sym (m.below past)) high
    ]

high_cases : (old mid : Columns) (P : List ℤ → Type 0) → IsMirrored old mid → (old.taken ≡ 0 → P old.spare) → P old.high → P mid.high
high_cases old mid P m spare high =
    elim (cases_lt 0 old.taken) [
      | inl later ↦ subst P (sym (m.later later)) high
      | inr none ↦ let first : old.taken ≡ 0 = omega (arith, none) in subst P (sym (m.first first)) (spare first)
    ]

pub spare_small : (old mid : Columns) → IsMirrored old mid → IsColumns old → (old.taken < high_count old.height → BelowUnits 10 (entries_of old.spare)) → BelowUnits 10 (entries_of mid.spare)
spare_small old mid m s small = spare_cases old mid (λ l. BelowUnits 10 (entries_of l)) m small s.high

pub mirrored_state : (old mid : Columns) → IsMirrored old mid → IsColumns old → 2 ≤ old.height → (old.taken < high_count old.height → BelowUnits 10 (entries_of old.spare)) → IsColumns mid
mirrored_state old mid m s two small =
    let w = m.same.width in
    let r = m.same.reach in
    record {
      two = subst (λ k. 2 ≤ k) (sym w) s.two;
      few = subst (λ k. k ≤ 43) (sym r) s.few;
      even_width = ap length m.even ∙ s.even_width ∙ sym w;
      odd_width = ap length m.odd ∙ s.odd_width ∙ sym w;
      high_width = high_cases old mid (λ l. length l ≡ mid.width) m (λ none. s.spare_width ∙ sym w) (s.high_width ∙ sym w);
      spare_width = spare_cases old mid (λ l. length l ≡ mid.width) m (λ more. s.spare_width ∙ sym w) (s.high_width ∙ sym w);
      even = subst (λ k. BelowUnits (k + 11) (entries_of mid.even)) (sym r) (subst (λ l. BelowUnits (old.reach + 11) (entries_of l)) (sym m.even) s.even);
      odd = subst (λ k. BelowUnits (k + 21) (entries_of mid.odd)) (sym r) (subst (λ l. BelowUnits (old.reach + 21) (entries_of l)) (sym m.odd) s.odd);
      high = high_cases old mid (λ l. BelowUnits 10 (entries_of l)) m (λ none. small (omega (arith, none, two))) s.high;
    }

above_shown : (start : ℕ) (t r : ℕ → ℕ → ℤ) (old mid : Columns) → IsMirrored old mid → 2 ≤ old.height → old.taken < low_count old.height → HoldsLast start t r old → (old.taken < high_count old.height → Shows old.spare (r old.taken)) → Shows mid.high (r (old.taken - 1))
above_shown start t r old mid m two room h spare =
    elim (cases_lt 0 old.taken) [
      | inl later ↦ shows_same mid.high old.high (r (old.taken - 1)) (m.later later) (h.high later (omega (arith, room)))
      | inr none ↦
          let first : old.taken ≡ 0 = omega (arith, none) in
          shows_same mid.high old.spare (r (old.taken - 1)) (m.first first) (shows_at old.spare r old.taken (old.taken - 1) (omega (arith, first)) (spare (omega (arith, first, two))))
    ]

below_shown : (start : ℕ) (t r : ℕ → ℕ → ℤ) (old mid : Columns) → IsMirrored old mid → 2 ≤ old.height → old.taken < low_count old.height → HoldsLast start t r old → (old.taken < high_count old.height → Shows old.spare (r old.taken)) → Shows mid.spare (r (min old.taken (high_count old.height - 1)))
below_shown start t r old mid m two room h spare =
    elim (cases_lt old.taken (high_count old.height)) [
      | inl more ↦ shows_same mid.spare old.spare (r (min old.taken (high_count old.height - 1))) (m.inside more) (shows_at old.spare r old.taken (min old.taken (high_count old.height - 1)) (omega (arith, more)) (spare more))
      | inr past ↦
          shows_same mid.spare old.high (r (min old.taken (high_count old.height - 1))) (m.below past)
          (shows_at old.high r (old.taken - 1) (min old.taken (high_count old.height - 1)) (omega (arith, past, room, two)) (h.high (omega (arith, past, two)) (omega (arith, room))))
    ]

pub taken_holds : (start : ℕ) (t r : ℕ → ℕ → ℤ) (line : ℕ → ℤ) (old mid new : Columns) → IsMirrored old mid → 2 ≤ old.height → old.taken < low_count old.height → IsColumns mid → IsColumns new → IsSameColumns mid new → new.taken ≡ old.taken + 1
    → Shows new.even (λ k. line k -ℤ int_shr (entries_of mid.high k +ℤ entries_of mid.spare k +ℤ pos 2) 2) → Shows new.odd (λ k. entries_of mid.high k +ℤ int_shr (entries_of mid.even k +ℤ entries_of new.even k) 1) → new.high ≡ mid.spare
    → HoldsLast start t r old → (old.taken < high_count old.height → Shows old.spare (r old.taken)) → SameLine old.width (t old.taken) line → HoldsLast start t r new
taken_holds start t r line old mid new m two room sm sn same one even odd high h spare next =
    let k = old.taken in
    let g = old.height in
    let w = mid.width in
    let tall : new.height ≡ g = same.height ∙ m.same.height in
    let wide : new.width ≡ w = same.width in
    let above = above_shown start t r old mid m two room h spare in
    let below = below_shown start t r old mid m two room h spare in
    let line_next : SameLine w (t k) line = subst (λ v. SameLine v (t k) line) (sym m.same.width) next in
    let made : Shows new.even (even_rows g t r k) = even_shown g k w t r line mid.high mid.spare new.even (sn.even_width ∙ wide) sm.high_width sm.spare_width line_next above below even in
    record {
      even = λ some. subst (λ n. Shows new.even (even_rows n t r (new.taken - 1))) (sym tall) (shows_at new.even (even_rows g t r) k (new.taken - 1) (omega (arith, one)) made);
      odd = λ some.
          let before : start < k = omega (arith, some, one) in
          let up = shows_same mid.even old.even (even_rows g t r (k - 1)) m.even (h.even before) in
          let down = shows_at new.even (even_rows g t r) k (min (k - 1 + 1) (low_count g - 1)) (omega (arith, before, room)) made in
          subst (λ n. Shows new.odd (odd_rows n t r (new.taken - 2))) (sym tall) (shows_at new.odd (odd_rows g t r) (k - 1) (new.taken - 2) (omega (arith, one, before))
          (odd_shown g (k - 1) w t r mid.high mid.even new.even new.odd (sn.odd_width ∙ wide) sm.high_width sm.even_width (sn.even_width ∙ wide) above up down odd));
      high = λ some most.
          let more : k < high_count g = omega (arith, most, one, tall) in
          shows_same new.high old.spare (r (new.taken - 1)) (high ∙ m.inside more) (shows_at old.spare r k (new.taken - 1) (omega (arith, one)) (spare more));
    }

-- ---- a row is given

pub give_even : (start number : ℕ) (t r : ℕ → ℕ → ℤ) (c : Columns) (line : List ℤ) → HoldsLast start t r c → 2 * start ≤ number → 0 < c.taken → number ≡ 2 * (c.taken - 1) → line ≡ c.even → Shows line (joined_rows c.height t r number)
give_even start number t r c line h from some place same =
    even_row c.height (c.taken - 1) number t r line place (shows_same line c.even (even_rows c.height t r (c.taken - 1)) same (h.even (omega (arith, from, place, some))))

pub give_odd : (start number : ℕ) (t r : ℕ → ℕ → ℤ) (c : Columns) (line : List ℤ) → HoldsLast start t r c → IsKnown number c → 2 * start ≤ number → number < 2 * (c.taken - 1) → line ≡ c.odd → Shows line (joined_rows c.height t r number)
give_odd start number t r c line h known from less same =
    let above = known.above in
    odd_row c.height (c.taken - 2) number t r line (omega (arith, less, above)) (shows_same line c.odd (odd_rows c.height t r (c.taken - 2)) same (h.odd (omega (arith, from, less))))

pub give_last : (start number : ℕ) (t r : ℕ → ℕ → ℤ) (c : Columns) (line : List ℤ) → IsColumns c → HoldsLast start t r c → IsKnown number c → 2 * start ≤ number → 2 * (c.taken - 1) < number → length line ≡ c.width
    → Shows line (λ k. entries_of c.high k +ℤ int_shr (entries_of c.even k +ℤ entries_of c.even k) 1) → Shows line (joined_rows c.height t r number)
give_last start number t r c line s h known from past wide lifted =
    let below = known.below in
    let inside = known.inside in
    let place : number ≡ 2 * (c.taken - 1) + 1 = omega (arith, past, below) in
    let all = known.last (omega (arith, place, below)) in
    let k = c.taken - 1 in
    let up = h.even (omega (arith, from, place, below)) in
    odd_row c.height k number t r line place
    (odd_shown c.height k c.width t r c.high c.even c.even line wide s.high_width s.even_width s.even_width (h.high (omega (arith, below)) (omega (arith, all, place, inside))) up
    (shows_at c.even (even_rows c.height t r) k (min (k + 1) (low_count c.height - 1)) (omega (arith, all, below)) up) lifted)
