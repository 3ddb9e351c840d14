-- How great the numbers are that are coded and that come back.
use Rattle.std.proofs.Common.{◌≡◌, ℕ, zero, suc, ◌+◌, ◌-◌, ◌*◌, ◌/◌, ◌^◌, ◌<◌, ◌≤◌, min, ℤ, pos, negsuc, Bool, true, false, nat_eq, nat_lt, arith, ap, sym, ◌∙◌, refl, inl, inr}
use Rattle.std.specs.Prelude.{unsigned_abs, if◌then◌else◌}
use Rattle.std.proofs.lemmas.Bool.{cases_lt, ltb-true}
use Rattle.std.proofs.lemmas.Int.{ints}
use Rattle.std.proofs.lemmas.Nat.{shr_split, pow_pos, pow-add}
use Rattle.std.proofs.Math.Nat.{mul-le-mul_right, pow-suc}
use Rattle.xs_layout.specs.declared.Quant.{Quant}
use Rattle.xs_layout.specs.declared.Quant.TheVariants.{DeadZone, Uniform}
use Rattle.xs_signal.specs.Lines.{IsBelow}
use Rattle.xs_signal.specs.Quantiser.{dead_zone_back, shift_sum, uniform_back, unquantised, with_sign_of, DequantisedFits}
use Rattle.xs_signal.specs.Fold.{FoldFits}

-- a magnitude that was given a sign
pub size_signed : (z : ℤ) (m : ℕ) → unsigned_abs (with_sign_of z m) ≡ m
size_signed (pos n) m = refl
size_signed (negsuc n) zero = refl
size_signed (negsuc n) (suc m) = refl

-- a bound of the magnitude is one on both sides
pub below_size : (b : ℕ) (z : ℤ) → unsigned_abs z < b → IsBelow b z
below_size b (pos n) small = record { least = omega (arith, ints, small); most = omega (arith, ints, small) }
below_size b (negsuc n) small = record { least = omega (arith, ints, small); most = omega (arith, ints, small) }

pub size_below : (b : ℕ) (z : ℤ) → IsBelow b z → unsigned_abs z < b
size_below b (pos n) small = omega (arith, ints, small.least, small.most)
size_below b (negsuc n) small = omega (arith, ints, small.least, small.most)

pub fold_fits : FoldFits
fold_fits fq z = let size = size_signed z (min ((unsigned_abs z + 2 ^ (fq - 1)) / 2 ^ fq) 32767) in omega (arith, size)

-- the sum is at most f and a part of f in 2 ^ step - 1
shift_sum_most : (step n f w : ℕ) → 2 ^ step ≡ w + 1 → shift_sum step n f * w ≤ f * (w + 1)
shift_sum_most step zero f w e = omega arith
shift_sum_most step (suc n) f w e =
    let rest = shift_sum_most step n (f / 2 ^ step) w e in
    let whole : f / 2 ^ step * (w + 1) ≤ f = omega (arith, ap (λ p. f / 2 ^ step * p) e, shr_split f step) in
    omega (arith, rest, whole)

-- v and its lowest planes are less than the next step, and that is at most 2 ^ count
room : (count cut v : ℕ) → cut ≤ count → v < 2 ^ (count - cut) → v * 2 ^ cut + 2 ^ cut ≤ 2 ^ count
room count cut v inside small =
    let back : count - cut + cut ≡ count = omega arith in
    let power : 2 ^ count ≡ 2 ^ (count - cut) * 2 ^ cut = sym (ap (λ k. 2 ^ k) back) ∙ pow-add 2 (count - cut) cut in
    let most : (v + 1) * 2 ^ cut ≤ 2 ^ (count - cut) * 2 ^ cut = mul-le-mul_right (2 ^ cut) (omega (arith, small)) in
    omega (arith, power, most)

none_or : (none : Bool) (x : ℕ) → (if none then 0 else x) ≤ x
none_or true x = omega arith
none_or false x = omega arith

dead_zone_back_fits : (count cut v : ℕ) → cut ≤ count → v < 2 ^ (count - cut) → dead_zone_back cut v < 2 ^ count
dead_zone_back_fits count cut v inside small =
    let middle = v * 2 ^ cut + 2 ^ cut / 2 in
    let most : dead_zone_back cut v ≤ middle = none_or (nat_eq v 0) middle in
    omega (arith, most, room count cut v inside small, pow_pos cut)

uniform_back_fits : (count cut v : ℕ) → cut ≤ count → v < 2 ^ (count - cut) → uniform_back count cut v < 2 ^ count
uniform_back_fits count cut v inside small =
    let z = count - cut + 1 in
    let w = 2 ^ z - 1 in
    let f = v * 2 ^ cut in
    let s = uniform_back count cut v in
    let whole : 2 ^ z ≡ w + 1 = omega (arith, pow_pos z) in
    let most : s * w ≤ f * (w + 1) = shift_sum_most z count f w whole in
    let one : cut + z ≡ suc count = omega (arith, inside) in
    let double : 2 ^ cut * (w + 1) ≡ 2 ^ count * 2 = ap (λ p. 2 ^ cut * p) (sym whole) ∙ sym (pow-add 2 cut z) ∙ ap (λ k. 2 ^ k) one ∙ pow-suc 2 count in
    let product : (f + 2 ^ cut) * (w + 1) ≤ 2 ^ count * (w + 1) = mul-le-mul_right (w + 1) (room count cut v inside small) in
    elim (cases_lt s (2 ^ count)) [
      | inl less ↦ less
      | inr past ↦
          let more : 2 ^ count * w ≤ s * w = mul-le-mul_right w past in
          absurd (omega (arith, most, double, product, more, pow_pos count))
    ]

pub unquantised_fits : (kind : Quant) (count cut v : ℕ) → cut ≤ count → v < 2 ^ (count - cut) → unquantised kind count cut v < 2 ^ count
unquantised_fits DeadZone count cut v inside small = dead_zone_back_fits count cut v inside small
unquantised_fits Uniform count cut v inside small = uniform_back_fits count cut v inside small

signed_fits : (kind : Quant) (count cut : ℕ) (q : ℤ) (some : Bool) → nat_lt cut count ≡ some → unsigned_abs q < 2 ^ (count - cut)
    → unsigned_abs (if some then with_sign_of q (unquantised kind count cut (unsigned_abs q)) else pos 0) < 2 ^ count
signed_fits kind count cut q true is small =
    let less : cut < count = ltb-true cut count is in
    omega (arith, size_signed q (unquantised kind count cut (unsigned_abs q)), unquantised_fits kind count cut (unsigned_abs q) (omega (arith, less)) small)
signed_fits kind count cut q false is small = pow_pos count

pub dequantised_fits : DequantisedFits
dequantised_fits kind count cut q small = signed_fits kind count cut q (nat_lt cut count) refl small
