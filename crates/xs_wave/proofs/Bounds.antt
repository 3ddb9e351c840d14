-- How great the numbers of one step are, from those beside them.
use Rattle.std.proofs.Common.{ℕ, ◌+◌, ◌-◌, ◌*◌, ◌<◌, ◌≤◌, min, ℤ, pos, ◌+ℤ◌, ◌-ℤ◌, arith}
use Rattle.std.proofs.lemmas.Int.{ints}
use Rattle.std.specs.Int.{int_shr}
use Rattle.xs_signal.proofs.Floors.{half_low, half_high, quarter_low, quarter_high}
use Rattle.xs_signal.specs.Lines.{IsBelow}
use Rattle.xs_signal.specs.Wavelet.{low_count, high_count, low_of, high_of, even_of}
use Rattle.xs_wave.proofs.Shown.{below_more}

residual_small : (b : ℕ) (x l r : ℤ) → 4 ≤ b → IsBelow b x → IsBelow b l → IsBelow b r → IsBelow (2 * b) (x -ℤ int_shr (l +ℤ r) 1)
residual_small b x l r some sx sl sr =
    let s = l +ℤ r in
    record {
      least = omega (arith, ints, half_low s, half_high s, sx.least, sx.most, sl.least, sl.most, sr.least, sr.most, some);
      most = omega (arith, ints, half_low s, half_high s, sx.least, sx.most, sl.least, sl.most, sr.least, sr.most, some);
    }

lowered_small : (b : ℕ) (x l r : ℤ) → 4 ≤ b → IsBelow b x → IsBelow b l → IsBelow b r → IsBelow (2 * b) (x -ℤ int_shr (l +ℤ r +ℤ pos 2) 2)
lowered_small b x l r some sx sl sr =
    let s = l +ℤ r +ℤ pos 2 in
    record {
      least = omega (arith, ints, quarter_low s, quarter_high s, sx.least, sx.most, sl.least, sl.most, sr.least, sr.most, some);
      most = omega (arith, ints, quarter_low s, quarter_high s, sx.least, sx.most, sl.least, sl.most, sr.least, sr.most, some);
    }

raised_small : (b : ℕ) (x l r : ℤ) → 4 ≤ b → IsBelow b x → IsBelow b l → IsBelow b r → IsBelow (2 * b) (x +ℤ int_shr (l +ℤ r +ℤ pos 2) 2)
raised_small b x l r some sx sl sr =
    let s = l +ℤ r +ℤ pos 2 in
    record {
      least = omega (arith, ints, quarter_low s, quarter_high s, sx.least, sx.most, sl.least, sl.most, sr.least, sr.most, some);
      most = omega (arith, ints, quarter_low s, quarter_high s, sx.least, sx.most, sl.least, sl.most, sr.least, sr.most, some);
    }

pub high_small : (b n : ℕ) (line : ℕ → ℤ) → 4 ≤ b → ((k : ℕ) → k < n → IsBelow b (line k)) → (k : ℕ) → k < high_count n → IsBelow (2 * b) (high_of n line k)
high_small b n line some small k inside =
    residual_small b (line (2 * k + 1)) (line (2 * k)) (line (2 * min (k + 1) (low_count n - 1))) some (small (2 * k + 1) (omega (arith, inside))) (small (2 * k) (omega (arith, inside)))
    (small (2 * min (k + 1) (low_count n - 1)) (omega (arith, inside)))

pub low_small : (b n : ℕ) (line : ℕ → ℤ) → 4 ≤ b → 2 ≤ n → ((k : ℕ) → k < n → IsBelow b (line k)) → (k : ℕ) → k < low_count n → IsBelow (2 * (2 * b)) (low_of n line k)
low_small b n line some two small k inside =
    raised_small (2 * b) (line (2 * k)) (high_of n line (k - 1)) (high_of n line (min k (high_count n - 1))) (omega (arith, some)) (below_more b (2 * b) _ (omega arith) (small (2 * k) (omega (arith, inside))))
    (high_small b n line some small (k - 1) (omega (arith, inside, two))) (high_small b n line some small (min k (high_count n - 1)) (omega (arith, two)))

pub even_small : (b n : ℕ) (low high : ℕ → ℤ) → 4 ≤ b → 2 ≤ n → ((k : ℕ) → k < low_count n → IsBelow b (low k)) → ((k : ℕ) → k < high_count n → IsBelow b (high k))
    → (k : ℕ) → k < low_count n → IsBelow (2 * b) (even_of n low high k)
even_small b n low high some two lows highs k inside =
    lowered_small b (low k) (high (k - 1)) (high (min k (high_count n - 1))) some (lows k inside) (highs (k - 1) (omega (arith, inside, two))) (highs (min k (high_count n - 1)) (omega (arith, two)))
