-- Rows that were lifted are the rows of the definition, and small.
use Rattle.std.proofs.Common.{◌≡◌, ◌≢◌, ℕ, ◌+◌, ◌-◌, ◌*◌, ◌/◌, ◌%◌, ◌^◌, ◌<◌, ◌≤◌, min, List, length, ℤ, pos, ◌+ℤ◌, ◌-ℤ◌, Bool, true, false, nat_eq, if◌then◌else◌, arith, ap, sym, subst, ◌∙◌}
use Rattle.std.proofs.Math.Nat.{pow-le-pow_right}
use Rattle.std.proofs.lemmas.Bool.{eqb-true, eqb-false}
use Rattle.std.proofs.lemmas.Nat.{pow_pos}
use Rattle.std.proofs.lemmas.Int.{ints}
use Rattle.std.specs.Int.{int_shr}
use Rattle.xs_signal.proofs.Floors.{half_low, half_high, quarter_low, quarter_high}
use Rattle.xs_signal.specs.Lines.{entries_of, Shows, IsBelow, AllBelow}
use Rattle.xs_signal.specs.Wavelet.{low_count, high_count}
use Rattle.xs_rows.proofs.Shown.{below_more, shown_below}
use Rattle.xs_rows.proofs.Values.{below_same}
use Rattle.xs_splitter.specs.Columns.{low_rows, high_rows, IsColumns, HoldsLast}
use Rattle.xs_splitter.specs.declared.columns.Columns.{Columns}

-- the high-pass row k, from the rows 2 k and 2 k + 1 and the even row below, which is mirrored at the end
pub high_shown : (h k after : ℕ) (p : ℕ → ℕ → ℤ) (even odd below new : List ℤ) → length even ≡ length new → length odd ≡ length new → length below ≡ length new → after ≡ 2 * min (k + 1) (low_count h - 1)
    → Shows even (p (2 * k)) → Shows odd (p (2 * k + 1)) → Shows below (p after) → Shows new (λ j. entries_of odd j -ℤ int_shr (entries_of even j +ℤ entries_of below j) 1) → Shows new (high_rows h p k)
high_shown h k after p even odd below new we wo wb place se so sb shown j inside =
    let e1 = se j (omega (arith, inside, we)) in
    let e2 = so j (omega (arith, inside, wo)) in
    let e3 = sb j (omega (arith, inside, wb)) in
    let e4 = ap (λ i. p i j) place in
    let e5 = shown j inside in
    cc

-- the low-pass row k, from the row 2 k and the high-pass rows above and below, which are mirrored at both ends
pub low_shown : (h k : ℕ) (p : ℕ → ℕ → ℤ) (even above below new : List ℤ) → length even ≡ length new → length above ≡ length new → length below ≡ length new
    → Shows even (p (2 * k)) → Shows above (high_rows h p (k - 1)) → Shows below (high_rows h p (min k (high_count h - 1)))
    → Shows new (λ j. entries_of even j +ℤ int_shr (entries_of above j +ℤ entries_of below j +ℤ pos 2) 2) → Shows new (low_rows h p k)
low_shown h k p even above below new we wa wb se sa sb shown j inside =
    let e1 = se j (omega (arith, inside, we)) in
    let e2 = sa j (omega (arith, inside, wa)) in
    let e3 = sb j (omega (arith, inside, wb)) in
    let e5 = shown j inside in
    cc

residual_small : (b : ℕ) (x l r : ℤ) → 0 < b → IsBelow b x → IsBelow b l → IsBelow b r → IsBelow (2 * b) (x -ℤ int_shr (l +ℤ r) 1)
residual_small b x l r some sx sl sr =
    let s = l +ℤ r in
    record {
      least = omega (arith, ints, half_low s, half_high s, sx.least, sx.most, sl.least, sl.most, sr.least, sr.most, some);
      most = omega (arith, ints, half_low s, half_high s, sx.least, sx.most, sl.least, sl.most, sr.least, sr.most, some);
    }

pub raised_small : (b : ℕ) (x l r : ℤ) → 0 < b → IsBelow b x → IsBelow (2 * b) l → IsBelow (2 * b) r → IsBelow (2 * b) (x +ℤ int_shr (l +ℤ r +ℤ pos 2) 2)
raised_small b x l r some sx sl sr =
    let s = l +ℤ r +ℤ pos 2 in
    record {
      least = omega (arith, ints, quarter_low s, quarter_high s, sx.least, sx.most, sl.least, sl.most, sr.least, sr.most, some);
      most = omega (arith, ints, quarter_low s, quarter_high s, sx.least, sx.most, sl.least, sl.most, sr.least, sr.most, some);
    }

-- a high-pass row is below twice the bound
pub high_below : (b : ℕ) (even odd below new : List ℤ) → 0 < b → AllBelow b (entries_of even) → AllBelow b (entries_of odd) → AllBelow b (entries_of below)
    → Shows new (λ j. entries_of odd j -ℤ int_shr (entries_of even j +ℤ entries_of below j) 1) → AllBelow (2 * b) (entries_of new)
high_below b even odd below new some se so sb shown =
    shown_below (2 * b) (2 * b) (λ j. j) new (λ j. entries_of odd j -ℤ int_shr (entries_of even j +ℤ entries_of below j) 1) (omega (arith, some)) (omega arith) shown
    (λ j. residual_small b (entries_of odd j) (entries_of even j) (entries_of below j) some (so j) (se j) (sb j))

-- and so is a low-pass row
pub low_below : (b : ℕ) (even above below new : List ℤ) → 0 < b → AllBelow b (entries_of even) → AllBelow (2 * b) (entries_of above) → AllBelow (2 * b) (entries_of below)
    → Shows new (λ j. entries_of even j +ℤ int_shr (entries_of above j +ℤ entries_of below j +ℤ pos 2) 2) → AllBelow (2 * b) (entries_of new)
low_below b even above below new some se sa sb shown =
    shown_below (2 * b) (2 * b) (λ j. j) new (λ j. entries_of even j +ℤ int_shr (entries_of above j +ℤ entries_of below j +ℤ pos 2) 2) (omega (arith, some)) (omega arith) shown
    (λ j. raised_small b (entries_of even j) (entries_of above j) (entries_of below j) some (se j) (sa j) (sb j))

-- ---- bounds of what the kernels take

pub fits : (bits : ℕ) (line : ℕ → ℤ) → bits ≤ 26 → AllBelow (2 ^ bits) line → AllBelow (2 ^ 26) line
fits bits line few small k =
    let most : 2 ^ bits ≤ 2 ^ 26 = pow-le-pow_right (omega arith) few in
    below_more (2 ^ bits) (2 ^ 26) (line k) most (small k)

pub fits_twice : (bits : ℕ) (line : ℕ → ℤ) → bits ≤ 26 → AllBelow (2 * 2 ^ bits) line → AllBelow (2 ^ 27) line
fits_twice bits line few small k =
    let most : 2 ^ bits ≤ 2 ^ 26 = pow-le-pow_right (omega arith) few in
    below_more (2 * 2 ^ bits) (2 ^ 27) (line k) (omega (arith, most)) (small k)

pub high_fits : (even odd below new kept : List ℤ) → AllBelow (2 ^ 26) (entries_of even) → AllBelow (2 ^ 26) (entries_of odd) → AllBelow (2 ^ 26) (entries_of below)
    → Shows new (λ j. entries_of odd j -ℤ int_shr (entries_of even j +ℤ entries_of below j) 1) → kept ≡ new → AllBelow (2 ^ 29) (entries_of kept)
high_fits even odd below new kept se so sb shown same k =
    below_more (2 * 2 ^ 26) (2 ^ 29) _ (omega arith) (below_same (2 * 2 ^ 26) _ _ (ap (λ l. entries_of l k) same) (high_below (2 ^ 26) even odd below new (omega arith) se so sb shown k))

-- ---- rows that wait

pub shows_at : (xs : List ℤ) (p : ℕ → ℕ → ℤ) (i j : ℕ) → i ≡ j → Shows xs (p i) → Shows xs (p j)
shows_at xs p i j same shown = subst (λ k. Shows xs (p k)) same shown

pub lifted_state : (old new : Columns) (row : List ℤ) → IsColumns old → old.taken % 2 ≡ 0 → length row ≡ old.width → AllBelow (2 ^ old.bits) (entries_of row) → new.width ≡ old.width → new.bits ≡ old.bits → new.taken ≡ old.taken + 1
    → new.even ≡ row → length new.odd ≡ length row → length new.high ≡ length row → Shows new.high (λ j. entries_of old.odd j -ℤ int_shr (entries_of old.even j +ℤ entries_of row j) 1) → IsColumns new
lifted_state old new row s even wide small w b t e wo wh high = record {
  even_width = ap length e ∙ wide ∙ sym w;
  odd_width = wo ∙ wide ∙ sym w;
  high_width = wh ∙ wide ∙ sym w;
  even = λ k. subst (λ i. IsBelow (2 ^ i) (entries_of new.even k)) (sym b) (below_same (2 ^ old.bits) _ _ (ap (λ l. entries_of l k) e) (small k));
  odd = λ none. absurd (omega (arith, none, t, even));
  high = λ k. subst (λ i. IsBelow (2 * 2 ^ i) (entries_of new.high k)) (sym b) (high_below (2 ^ old.bits) old.even old.odd row new.high (pow_pos old.bits) s.even (s.odd even) small high k);
}

pub lifted_below : (b : ℕ) (first : Bool) (even high known new : List ℤ) → 0 < b → AllBelow b (entries_of even) → AllBelow (2 * b) (entries_of high) → AllBelow (2 * b) (entries_of known)
    → Shows new (λ j. entries_of even j +ℤ int_shr ((if first then entries_of known j else entries_of high j) +ℤ entries_of known j +ℤ pos 2) 2) → AllBelow (2 * b) (entries_of new)
lifted_below b true even high known new some se sh sk shown = low_below b even known known new some se sk sk shown
lifted_below b false even high known new some se sh sk shown = low_below b even high known new some se sh sk shown

-- the third row and each second one after it make a low-pass and a high-pass row known
pub lifted_high : (p : ℕ → ℕ → ℤ) (old : Columns) (row new : List ℤ) → IsColumns old → HoldsLast p old → old.taken % 2 ≡ 0 → 2 ≤ old.taken → old.taken < old.height → length row ≡ old.width → length new ≡ old.width → Shows row (p old.taken)
    → Shows new (λ j. entries_of old.odd j -ℤ int_shr (entries_of old.even j +ℤ entries_of row j) 1) → Shows new (high_rows old.height p (old.taken / 2 - 1))
lifted_high p old row new s h even two room wide same shown lifted =
    let t = old.taken in
    let k = t / 2 - 1 in
    high_shown old.height k t p old.even old.odd row new (s.even_width ∙ sym same) (s.odd_width ∙ sym same) (wide ∙ sym same) (omega (arith, even, two, room))
    (shows_at old.even p (2 * ((t - 1) / 2)) (2 * k) (omega (arith, even, two)) (h.even (omega (arith, two)))) (shows_at old.odd p (t - 1) (2 * k + 1) (omega (arith, even, two)) (h.odd (omega (arith, two)) even)) shown lifted

pub lifted_low : (p : ℕ → ℕ → ℤ) (old : Columns) (first : Bool) (known new : List ℤ) → nat_eq old.taken 2 ≡ first → IsColumns old → HoldsLast p old → old.taken % 2 ≡ 0 → 2 ≤ old.taken → old.taken < old.height → length known ≡ old.width → length new ≡ old.width
    → Shows known (high_rows old.height p (old.taken / 2 - 1))
    → Shows new (λ j. entries_of old.even j +ℤ int_shr ((if first then entries_of known j else entries_of old.high j) +ℤ entries_of known j +ℤ pos 2) 2) → Shows new (low_rows old.height p (old.taken / 2 - 1))
lifted_low p old true known new is s h even two room wide same shown lifted =
    let t = old.taken in
    let k = t / 2 - 1 in
    let q = high_rows old.height p in
    let one : t ≡ 2 = eqb-true t 2 is in
    low_shown old.height k p old.even known known new (s.even_width ∙ sym same) (wide ∙ sym same) (wide ∙ sym same)
    (shows_at old.even p (2 * ((t - 1) / 2)) (2 * k) (omega (arith, even, two)) (h.even (omega (arith, two)))) (shows_at known q k (k - 1) (omega (arith, one)) shown) (shows_at known q k (min k (high_count old.height - 1)) (omega (arith, even, two, room)) shown) lifted
lifted_low p old false known new is s h even two room wide same shown lifted =
    let t = old.taken in
    let k = t / 2 - 1 in
    let q = high_rows old.height p in
    let more : t ≢ 2 = eqb-false t 2 is in
    low_shown old.height k p old.even old.high known new (s.even_width ∙ sym same) (s.high_width ∙ sym same) (wide ∙ sym same)
    (shows_at old.even p (2 * ((t - 1) / 2)) (2 * k) (omega (arith, even, two)) (h.even (omega (arith, two)))) (shows_at old.high q ((t - 1) / 2 - 1) (k - 1) (omega (arith, even, two)) (h.high (omega (arith, two, more))))
    (shows_at known q k (min k (high_count old.height - 1)) (omega (arith, even, two, room)) shown) lifted

-- ---- the last rows

pub last_high : (p : ℕ → ℕ → ℤ) (old : Columns) (new : List ℤ) → IsColumns old → HoldsLast p old → old.taken % 2 ≡ 0 → old.taken ≡ old.height → 2 ≤ old.height → length new ≡ old.width
    → Shows new (λ j. entries_of old.odd j -ℤ int_shr (entries_of old.even j +ℤ entries_of old.even j) 1) → Shows new (high_rows old.height p (high_count old.height - 1))
last_high p old new s h even all two same lifted =
    let t = old.taken in
    let k = high_count old.height - 1 in
    let here = shows_at old.even p (2 * ((t - 1) / 2)) (2 * k) (omega (arith, even, all, two)) (h.even (omega (arith, two, all))) in
    high_shown old.height k (2 * k) p old.even old.odd old.even new (s.even_width ∙ sym same) (s.odd_width ∙ sym same) (s.even_width ∙ sym same) (omega (arith, even, all, two))
    here (shows_at old.odd p (t - 1) (2 * k + 1) (omega (arith, even, all, two)) (h.odd (omega (arith, two, all)) even)) here lifted

pub last_low : (p : ℕ → ℕ → ℤ) (old : Columns) (first : Bool) (known new : List ℤ) → nat_eq old.taken 2 ≡ first → IsColumns old → HoldsLast p old → old.taken % 2 ≡ 0 → old.taken ≡ old.height → 2 ≤ old.height → length known ≡ old.width → length new ≡ old.width
    → Shows known (high_rows old.height p (high_count old.height - 1))
    → Shows new (λ j. entries_of old.even j +ℤ int_shr ((if first then entries_of known j else entries_of old.high j) +ℤ entries_of known j +ℤ pos 2) 2) → Shows new (low_rows old.height p (low_count old.height - 1))
last_low p old true known new is s h even all two wide same shown lifted =
    let t = old.taken in
    let k = low_count old.height - 1 in
    let q = high_rows old.height p in
    let one : t ≡ 2 = eqb-true t 2 is in
    low_shown old.height k p old.even known known new (s.even_width ∙ sym same) (wide ∙ sym same) (wide ∙ sym same)
    (shows_at old.even p (2 * ((t - 1) / 2)) (2 * k) (omega (arith, even, all, two)) (h.even (omega (arith, two, all)))) (shows_at known q (high_count old.height - 1) (k - 1) (omega (arith, one, all)) shown)
    (shows_at known q (high_count old.height - 1) (min k (high_count old.height - 1)) (omega (arith, even, all, two)) shown) lifted
last_low p old false known new is s h even all two wide same shown lifted =
    let t = old.taken in
    let k = low_count old.height - 1 in
    let q = high_rows old.height p in
    let more : t ≢ 2 = eqb-false t 2 is in
    low_shown old.height k p old.even old.high known new (s.even_width ∙ sym same) (s.high_width ∙ sym same) (wide ∙ sym same)
    (shows_at old.even p (2 * ((t - 1) / 2)) (2 * k) (omega (arith, even, all, two)) (h.even (omega (arith, two, all)))) (shows_at old.high q ((t - 1) / 2 - 1) (k - 1) (omega (arith, even, all, two)) (h.high (omega (arith, two, more, all, even))))
    (shows_at known q (high_count old.height - 1) (min k (high_count old.height - 1)) (omega (arith, even, all, two)) shown) lifted

pub last_odd_low : (p : ℕ → ℕ → ℤ) (old : Columns) (new : List ℤ) → IsColumns old → HoldsLast p old → old.taken % 2 ≡ 1 → old.taken ≡ old.height → 2 ≤ old.height → length new ≡ old.width
    → Shows new (λ j. entries_of old.even j +ℤ int_shr (entries_of old.high j +ℤ entries_of old.high j +ℤ pos 2) 2) → Shows new (low_rows old.height p (low_count old.height - 1))
last_odd_low p old new s h odd all two same lifted =
    let t = old.taken in
    let k = low_count old.height - 1 in
    let q = high_rows old.height p in
    let high = h.high (omega (arith, odd, all, two)) in
    low_shown old.height k p old.even old.high old.high new (s.even_width ∙ sym same) (s.high_width ∙ sym same) (s.high_width ∙ sym same)
    (shows_at old.even p (2 * ((t - 1) / 2)) (2 * k) (omega (arith, odd, all, two)) (h.even (omega (arith, two, all)))) (shows_at old.high q ((t - 1) / 2 - 1) (k - 1) (omega (arith, odd, all, two)) high)
    (shows_at old.high q ((t - 1) / 2 - 1) (min k (high_count old.height - 1)) (omega (arith, odd, all, two)) high) lifted

pub last_odd_high : (p : ℕ → ℕ → ℤ) (old : Columns) → HoldsLast p old → old.taken % 2 ≡ 1 → old.taken ≡ old.height → 2 ≤ old.height → Shows old.high (high_rows old.height p (high_count old.height - 1))
last_odd_high p old h odd all two =
    shows_at old.high (high_rows old.height p) ((old.taken - 1) / 2 - 1) (high_count old.height - 1) (omega (arith, odd, all, two)) (h.high (omega (arith, odd, all, two)))

pub fits_kernel : (bits : ℕ) (line : ℕ → ℤ) → bits ≤ 26 → AllBelow (2 ^ bits) line → AllBelow (2 ^ 29) line
fits_kernel bits line few small k = below_more (2 ^ 26) (2 ^ 29) (line k) (omega arith) (fits bits line few small k)

pub fits_kernel_twice : (bits : ℕ) (line : ℕ → ℤ) → bits ≤ 26 → AllBelow (2 * 2 ^ bits) line → AllBelow (2 ^ 29) line
fits_kernel_twice bits line few small k = below_more (2 ^ 27) (2 ^ 29) (line k) (omega arith) (fits_twice bits line few small k)
