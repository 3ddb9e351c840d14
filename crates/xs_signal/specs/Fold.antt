-- From a coefficient to the magnitude and sign that are coded: 'Rate choice'.
use Rattle.std.specs.Prelude.{◌≡◌, ◌⊎◌, ℕ, ◌+◌, ◌-◌, ◌/◌, ◌^◌, ◌≤◌, min, ℤ, unsigned_abs}
use Rattle.xs_signal.specs.Quantiser.{with_sign_of}

-- the bits that may be rounded away
abbrev pub IsFraction : ℕ → Type 0
IsFraction fq = (fq ≡ 6) ⊎ (fq ≡ 8)

-- the magnitude without its `fq` lowest bits, rounded to the nearest and at most 32767, with the coefficient's sign
abbrev pub fold : ℕ → ℤ → ℤ
fold fq z = with_sign_of z (min ((unsigned_abs z + 2 ^ (fq - 1)) / 2 ^ fq) 32767)

-- what is coded of a coefficient has at most 15 bits
abbrev pub FoldFits : Type 0
FoldFits = (fq : ℕ) (z : ℤ) → unsigned_abs (fold fq z) ≤ 32767
