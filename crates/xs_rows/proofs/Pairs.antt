-- One more pair of an even and an odd sample is written.
use Rattle.std.proofs.Common.{◌≡◌, ℕ, ◌+◌, ◌*◌, ◌/◌, ◌%◌, ◌<◌, ◌≤◌, List, length, length-set, ℤ, pos, arith, ap, sym, ◌∙◌, inl, inr, get_or-set_other}
use Rattle.std.proofs.lemmas.Bool.{cases_eq, cases_lt}
use Rattle.std.proofs.Math.ListN.{set}
use Rattle.xs_signal.specs.Lines.{entries_of, Shows}
use Rattle.xs_signal.specs.Wavelet.{high_count, even_of, odd_of, inverse_line}
use Rattle.xs_signal.proofs.LineLaws.{at_even, at_odd}
use Rattle.xs_rows.specs.Halves.{ShowsPairs}
use Rattle.xs_rows.proofs.Places.{one_more}

pub pair_more : (xs : List ℤ) (k : ℕ) (evens odds : ℕ → ℤ) (v w : ℤ) → 2 * k + 1 < length xs → v ≡ evens k → w ≡ odds k → ShowsPairs xs k evens odds
    → ShowsPairs (set (set xs (2 * k) v) (2 * k + 1) w) (k + 1) evens odds
pair_more xs k evens odds v w inside even odd old =
    let first = set xs (2 * k) v in
    let size : length first ≡ length xs = length-set xs (2 * k) v in
    let before = one_more (λ j. 2 * j) xs evens k v (λ i j e. omega arith) (omega arith) even old.evens in
    let kept : (j : ℕ) → j < k → entries_of first (2 * j + 1) ≡ odds j = λ j less. get_or-set_other xs (2 * k) (2 * j + 1) v (pos 0) (λ e. omega arith) ∙ old.odds j less in
    record {
      evens = λ j less. get_or-set_other first (2 * k + 1) (2 * j) w (pos 0) (λ e. omega arith) ∙ before j less;
      odds = one_more (λ j. 2 * j + 1) first odds k w (λ i j e. omega arith) (omega (arith, size, inside)) odd kept;
    }

-- all pairs, and the even sample after them where there is one, are the line
pub row_of_pairs : (n : ℕ) (low high : ℕ → ℤ) (xs : List ℤ) → length xs ≡ n → ShowsPairs xs (high_count n) (even_of n low high) (odd_of n low high)
    → (2 * high_count n < n → entries_of xs (2 * high_count n) ≡ even_of n low high (high_count n)) → Shows xs (inverse_line n low high)
row_of_pairs n low high xs size pairs end k inside =
    let h = k / 2 in
    elim (cases_eq (k % 2) 0) [
      | inl e ↦
          let place : k ≡ 2 * h = omega arith in
          elim (cases_lt h (high_count n)) [
            | inl less ↦ ap (entries_of xs) place ∙ pairs.evens h less ∙ sym (at_even n low high k e)
            | inr past ↦
                let last : h ≡ high_count n = omega arith in
                let whole : k ≡ 2 * high_count n = omega arith in
                ap (entries_of xs) whole ∙ end (omega arith) ∙ ap (even_of n low high) (sym last) ∙ sym (at_even n low high k e)
          ]
      | inr ne ↦
          let one : k % 2 ≡ 1 = omega arith in
          let place : k ≡ 2 * h + 1 = omega arith in
          ap (entries_of xs) place ∙ pairs.odds h (omega arith) ∙ sym (at_odd n low high k one)
    ]

-- a number that is written after the pairs leaves them
pub pairs_kept : (xs : List ℤ) (count place : ℕ) (evens odds : ℕ → ℤ) (v : ℤ) → 2 * count ≤ place → ShowsPairs xs count evens odds → ShowsPairs (set xs place v) count evens odds
pairs_kept xs count place evens odds v after old = record {
  evens = λ j less. get_or-set_other xs place (2 * j) v (pos 0) (λ e. omega arith) ∙ old.evens j less;
  odds = λ j less. get_or-set_other xs place (2 * j + 1) v (pos 0) (λ e. omega arith) ∙ old.odds j less;
}
