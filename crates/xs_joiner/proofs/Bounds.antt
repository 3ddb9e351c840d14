-- What the steps of an inverse make of small numbers.
use Rattle.std.proofs.Common.{◌≡◌, ℕ, ◌+◌, ◌*◌, ◌/◌, ◌%◌, ◌-◌, ◌≤◌, ◌^◌, min, List, ℤ, pos, ◌+ℤ◌, ◌-ℤ◌, arith, inl, inr}
use Rattle.std.proofs.lemmas.Bool.{cases_eq}
use Rattle.std.proofs.lemmas.Int.{ints}
use Rattle.std.specs.Int.{int_shr}
use Rattle.xs_signal.specs.Lines.{entries_of, Shows, IsBelow, AllBelow}
use Rattle.xs_signal.specs.Wavelet.{low_count, high_count, even_of, odd_of, inverse_line}
use Rattle.xs_signal.proofs.Floors.{half_low, half_high, quarter_low, quarter_high}
use Rattle.xs_signal.proofs.LineLaws.{at_even, at_odd}
use Rattle.xs_rows.proofs.Shown.{below_more, shown_below}
use Rattle.xs_rows.proofs.Values.{below_same}
use Rattle.xs_joiner.specs.Units.{BelowUnits}

-- an entry less a quarter of its neighbours
pub update_small : (a b : ℕ) (x l r : ℤ) → IsBelow a x → IsBelow (2 * b) l → IsBelow (2 * b) r → IsBelow (a + b) (x -ℤ int_shr (l +ℤ r +ℤ pos 2) 2)
update_small a b x l r sx sl sr =
    let s = l +ℤ r +ℤ pos 2 in
    record {
      least = omega (arith, ints, quarter_low s, quarter_high s, sx.least, sx.most, sl.least, sl.most, sr.least, sr.most);
      most = omega (arith, ints, quarter_low s, quarter_high s, sx.least, sx.most, sl.least, sl.most, sr.least, sr.most);
    }

-- an entry and half of its neighbours
pub predict_small : (a b : ℕ) (x l r : ℤ) → IsBelow a x → IsBelow b l → IsBelow b r → IsBelow (a + b) (x +ℤ int_shr (l +ℤ r) 1)
predict_small a b x l r sx sl sr =
    let s = l +ℤ r in
    record {
      least = omega (arith, ints, half_low s, half_high s, sx.least, sx.most, sl.least, sl.most, sr.least, sr.most);
      most = omega (arith, ints, half_low s, half_high s, sx.least, sx.most, sl.least, sl.most, sr.least, sr.most);
    }

even_small : (m q n : ℕ) (low high : ℕ → ℤ) → AllBelow m low → AllBelow (2 * (2 * q)) high → AllBelow (m + 2 * q) (even_of n low high)
even_small m q n low high lows highs k = update_small m (2 * q) (low k) (high (k - 1)) (high (min k (high_count n - 1))) (lows k) (highs (k - 1)) (highs (min k (high_count n - 1)))

odd_small : (m q n : ℕ) (low high : ℕ → ℤ) → AllBelow m low → AllBelow (2 * (2 * q)) high → AllBelow (2 * (2 * q) + (m + 2 * q)) (odd_of n low high)
odd_small m q n low high lows highs k =
    let small = even_small m q n low high lows highs in
    predict_small (2 * (2 * q)) (m + 2 * q) (high k) (even_of n low high k) (even_of n low high (min (k + 1) (low_count n - 1))) (highs k) (small k) (small (min (k + 1) (low_count n - 1)))

line_small : (m q n : ℕ) (low high : ℕ → ℤ) → AllBelow m low → AllBelow (2 * (2 * q)) high → AllBelow (m + 6 * q) (inverse_line n low high)
line_small m q n low high lows highs k =
    elim (cases_eq (k % 2) 0) [
      | inl e ↦ below_more (m + 2 * q) (m + 6 * q) _ (omega arith) (below_same (m + 2 * q) _ _ (at_even n low high k e) (even_small m q n low high lows highs (k / 2)))
      | inr ne ↦
          let one : k % 2 ≡ 1 = omega arith in
          below_more (2 * (2 * q) + (m + 2 * q)) (m + 6 * q) _ (omega arith) (below_same (2 * (2 * q) + (m + 2 * q)) _ _ (at_odd n low high k one) (odd_small m q n low high lows highs (k / 2)))
    ]

-- a bound in units is one in numbers
pub units_more : (u v : ℕ) (line : ℕ → ℤ) → u ≤ v → BelowUnits u line → BelowUnits v line
units_more u v line more small k = below_more (u * 2 ^ 21) (v * 2 ^ 21) (line k) (omega (arith, more)) (small k)

pub units_below : (u bound : ℕ) (line : ℕ → ℤ) → u * 2 ^ 21 ≤ bound → BelowUnits u line → AllBelow bound line
units_below u bound line fits small k = below_more (u * 2 ^ 21) bound (line k) fits (small k)

-- a row that was joined of a low part and a fresh high part
pub joined_units : (u n : ℕ) (low high new : List ℤ) → BelowUnits u (entries_of low) → BelowUnits 4 (entries_of high) → Shows new (inverse_line n (entries_of low) (entries_of high)) → BelowUnits (u + 6) (entries_of new)
joined_units u n low high new lows highs shown =
    shown_below (u * 2 ^ 21 + 6 * 2 ^ 21) ((u + 6) * 2 ^ 21) (λ j. j) new (inverse_line n (entries_of low) (entries_of high)) (omega arith) (omega arith) shown
    (line_small (u * 2 ^ 21) (2 ^ 21) n (entries_of low) (entries_of high) lows (units_below 4 (2 * (2 * 2 ^ 21)) (entries_of high) (omega arith) highs))

-- an even row
pub even_units : (u : ℕ) (row above below new : List ℤ) → BelowUnits (u + 6) (entries_of row) → BelowUnits 10 (entries_of above) → BelowUnits 10 (entries_of below)
    → Shows new (λ j. entries_of row j -ℤ int_shr (entries_of above j +ℤ entries_of below j +ℤ pos 2) 2) → BelowUnits (u + 11) (entries_of new)
even_units u row above below new small sa sb shown =
    let up = units_below 10 (2 * (5 * 2 ^ 21)) (entries_of above) (omega arith) sa in
    let down = units_below 10 (2 * (5 * 2 ^ 21)) (entries_of below) (omega arith) sb in
    shown_below ((u + 6) * 2 ^ 21 + 5 * 2 ^ 21) ((u + 11) * 2 ^ 21) (λ j. j) new (λ j. entries_of row j -ℤ int_shr (entries_of above j +ℤ entries_of below j +ℤ pos 2) 2) (omega arith) (omega arith) shown
    (λ j. update_small ((u + 6) * 2 ^ 21) (5 * 2 ^ 21) (entries_of row j) (entries_of above j) (entries_of below j) (small j) (up j) (down j))

-- an odd row
pub odd_units : (u : ℕ) (high above below new : List ℤ) → BelowUnits 10 (entries_of high) → BelowUnits (u + 11) (entries_of above) → BelowUnits (u + 11) (entries_of below)
    → Shows new (λ j. entries_of high j +ℤ int_shr (entries_of above j +ℤ entries_of below j) 1) → BelowUnits (u + 21) (entries_of new)
odd_units u high above below new small sa sb shown =
    shown_below (10 * 2 ^ 21 + (u + 11) * 2 ^ 21) ((u + 21) * 2 ^ 21) (λ j. j) new (λ j. entries_of high j +ℤ int_shr (entries_of above j +ℤ entries_of below j) 1) (omega arith) (omega arith) shown
    (λ j. predict_small (10 * 2 ^ 21) ((u + 11) * 2 ^ 21) (entries_of high j) (entries_of above j) (entries_of below j) (small j) (sa j) (sb j))
