-- Coefficients that stand for numbers that were sent, by their signs and magnitudes.
use Rattle.std.proofs.Common.{◌≡◌, ℕ, zero, suc, ◌-◌, ◌*◌, ◌^◌, ◌<◌, ◌≤◌, refl, sym, ap, ◌∙◌, arith, inl, inr}
use Rattle.std.specs.Prelude.{Bool, true, false, nat_lt, if◌then◌else◌, ℤ, pos, negsuc, neg_ℤ, ◌*ℤ◌, unsigned_abs}
use Rattle.std.specs.Int.{is_negative}
use Rattle.std.proofs.Math.IntN.{pos-*ℤ-pos, negsuc-*ℤ-pos}
use Rattle.std.proofs.Math.Nat.{zero-mul}
use Rattle.std.proofs.Math.Pow.{pow_mono}
use Rattle.std.proofs.lemmas.Bool.{lt-ltb, le-ltb, cases_lt}
use Rattle.xs_layout.specs.declared.Quant.{Quant}
use Rattle.xs_layout.specs.declared.Quant.TheVariants.{DeadZone, Uniform}
use Rattle.xs_signal.specs.Quantiser.{dead_zone_back, dequantised, unquantised, with_sign_of}
use Rattle.xs_signal.proofs.Magnitudes.{unquantised_fits}

no_product : (k : ℕ) → neg_ℤ (pos (0 * k)) ≡ pos 0 *ℤ pos k
no_product k =
    let none : 0 * k ≡ 0 = zero-mul k in
    ap (λ n. neg_ℤ (pos n)) none ∙ sym (pos-*ℤ-pos 0 k ∙ ap (λ n. pos n) none)

-- a product has the sign of its first factor
signed_times : (z : ℤ) (m k : ℕ) → with_sign_of z m *ℤ pos k ≡ (if is_negative z then neg_ℤ (pos (m * k)) else pos (m * k))
signed_times (pos n) m k =
    let positive : is_negative (pos n) ≡ false = le-ltb n 0 (omega arith) in
    pos-*ℤ-pos m k ∙ sym (ap (λ test. if test then neg_ℤ (pos (m * k)) else pos (m * k)) positive)
signed_times (negsuc n) zero k = sym (no_product k)
signed_times (negsuc n) (suc m) k = negsuc-*ℤ-pos m k

no_number : (z : ℤ) → unsigned_abs z < 1 → z ≡ pos 0
no_number (pos zero) small = refl
no_number (pos (suc n)) small = absurd (omega (arith, small))
no_number (negsuc n) small = absurd (omega (arith, small))

-- the coefficient of a number in a code group of so many planes
coefficient : (kind : Quant) (count cut k : ℕ) (z : ℤ) (m : ℕ) → m ≡ (if nat_lt cut count then unquantised kind count cut (unsigned_abs z) else 0)
    → (if is_negative z then neg_ℤ (pos (m * k)) else pos (m * k)) ≡ dequantised kind count cut z *ℤ pos k
coefficient kind count cut k z m e = ap (λ m. if is_negative z then neg_ℤ (pos (m * k)) else pos (m * k)) e ∙ by_test (nat_lt cut count)
  where
    none : (test : Bool) → (if test then neg_ℤ (pos (0 * k)) else pos (0 * k)) ≡ pos 0 *ℤ pos k
    none true = no_product k
    none false = sym (pos-*ℤ-pos 0 k)

    by_test : (test : Bool) → (if is_negative z then neg_ℤ (pos ((if test then unquantised kind count cut (unsigned_abs z) else 0) * k)) else pos ((if test then unquantised kind count cut (unsigned_abs z) else 0) * k))
        ≡ (if test then with_sign_of z (unquantised kind count cut (unsigned_abs z)) else pos 0) *ℤ pos k
    by_test true = sym (signed_times z (unquantised kind count cut (unsigned_abs z)) k)
    by_test false = none (is_negative z)

-- by steps, whose magnitude hangs on the count
pub by_step : (count cut k : ℕ) (z : ℤ) (m : ℕ) → m ≡ (if nat_lt cut count then unquantised Uniform count cut (unsigned_abs z) else 0)
    → (if is_negative z then neg_ℤ (pos (m * k)) else pos (m * k)) ≡ dequantised Uniform count cut z *ℤ pos k
by_step count cut k z m e = coefficient Uniform count cut k z m e

-- by middles, whose magnitude does not
pub by_middle : (count cut k : ℕ) (z : ℤ) (m : ℕ) → unsigned_abs z < 2 ^ (count - cut) → m ≡ dead_zone_back cut (unsigned_abs z)
    → (if is_negative z then neg_ℤ (pos (m * k)) else pos (m * k)) ≡ dequantised DeadZone count cut z *ℤ pos k
by_middle count cut k z m small e = coefficient DeadZone count cut k z m (e ∙ elim (cases_lt cut count) [
  | inl more ↦ sym (ap (λ test. if test then dead_zone_back cut (unsigned_abs z) else 0) (lt-ltb cut count more))
  | inr less ↦
      let none : count - cut ≡ 0 = omega (arith, less) in
      let zero_number : z ≡ pos 0 = no_number z (omega (arith, small, ap (λ k. 2 ^ k) none)) in
      ap (λ z. dead_zone_back cut (unsigned_abs z)) zero_number ∙ sym (ap (λ test. if test then dead_zone_back cut (unsigned_abs z) else 0) (le-ltb cut count less))
])

-- numbers have room in the planes that are left of fifteen
pub small_within : (count cut v : ℕ) → count ≤ 15 → v < 2 ^ (count - cut) → v < 2 ^ (15 - cut)
small_within count cut v few small = let most = pow_mono {i = count - cut} {j = 15 - cut} (omega (arith, few)) in omega (arith, small, most)

pub back_fits : (kind : Quant) (count cut v : ℕ) → cut ≤ count → count ≤ 15 → v < 2 ^ (count - cut) → unquantised kind count cut v < 2 ^ 15
back_fits kind count cut v inside few small = let most = pow_mono {i = count} {j = 15} few in omega (arith, most, unquantised_fits kind count cut v inside small)
