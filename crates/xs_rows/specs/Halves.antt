-- The even and the odd places of a list: '5/3 wavelet'.
use Rattle.std.specs.Prelude.{◌≡◌, ℕ, ◌+◌, ◌*◌, ◌<◌, List, ℤ}
use Rattle.xs_signal.specs.Lines.{entries_of}
use Rattle.xs_signal.specs.Wavelet.{even_of, odd_of}

-- the first pairs of an even and an odd place have the entries of these two lines
pub record ShowsPairs (xs : List ℤ) (count : ℕ) (even odd : ℕ → ℤ) : Type 0 where
  pub evens : (k : ℕ) → k < count → entries_of xs (2 * k) ≡ even k
  pub odds : (k : ℕ) → k < count → entries_of xs (2 * k + 1) ≡ odd k

-- the first pairs are those of the line of n samples with this low and high part
abbrev pub ShowsJoined : List ℤ → ℕ → ℕ → (ℕ → ℤ) → (ℕ → ℤ) → Type 0
ShowsJoined xs count n low high = ShowsPairs xs count (even_of n low high) (odd_of n low high)
