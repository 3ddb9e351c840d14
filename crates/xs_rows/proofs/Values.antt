-- What the steps on single numbers give, in the words of the definitions.
use Rattle.std.proofs.Common.{◌≡◌, ℕ, suc, refl, ap, ◌<◌, ◌+◌, ◌-◌, ◌*◌, ◌%◌, ◌^◌, ◌≤◌, min, ℤ, pos, negsuc, ◌+ℤ◌, ◌-ℤ◌, ◌*ℤ◌, arith, sym, subst, ◌∙◌, w32, to_z, of_z, SFits}
use Rattle.std.proofs.lemmas.Int.{ints}
use Rattle.std.proofs.lemmas.Nat.{pow_pos}
use Rattle.std.specs.Int.{int_shr}
use Rattle.xs_signal.specs.Lines.{IsBelow, AllBelow}
use Rattle.xs_signal.specs.Wavelet.{low_count, high_count, predicted_sample, updated}
use Rattle.xs_signal.specs.Samples.{clamped, scale_out}
use Rattle.xs_signal.proofs.Floors.{half_low, half_high, quarter_low, quarter_high}

-- a number that was passed
abbrev pub passed : ℤ → ℤ
passed z = to_z w32 (of_z w32 z)

pub passed_small : (bound : ℕ) (z : ℤ) → bound ≤ 2 ^ 29 → IsBelow bound z → passed z ≡ z
passed_small bound z most small = omega (arith, ints, small.least, small.most)

-- an equal number is below the same bound
pub below_same : (bound : ℕ) (y z : ℤ) → y ≡ z → IsBelow bound z → IsBelow bound y
below_same bound y z e small = record { least = omega (arith, ints, e, small.least, small.most); most = omega (arith, ints, e, small.least, small.most) }

pub update_forward_at : (b c n k : ℕ) (x : ℤ) (high : ℕ → ℤ) (r y left right : ℤ) → b ≤ 2 ^ 29 → c ≤ 2 ^ 29 → IsBelow b x → AllBelow c high → y ≡ x → left ≡ high (k - 1) → right ≡ high (min k (high_count n - 1))
    → r ≡ y +ℤ int_shr (left +ℤ right +ℤ pos 2) 2 → passed r ≡ x +ℤ updated n high k
update_forward_at b c n k x high r y left right most_b most_c small smalls same_y le ri e =
    let l = below_same c left _ le (smalls (k - 1)) in
    let h = below_same c right _ ri (smalls (min k (high_count n - 1))) in
    let s = left +ℤ right +ℤ pos 2 in
    let value : r ≡ x +ℤ int_shr s 2 = cc in
    let kept : passed r ≡ r = omega (arith, ints, value, quarter_low s, quarter_high s, small.least, small.most, l.least, l.most, h.least, h.most) in
    let named : r ≡ x +ℤ updated n high k = cc in
    kept ∙ named

pub update_inverse_at : (b c n k : ℕ) (x : ℤ) (high : ℕ → ℤ) (r y left right : ℤ) → b ≤ 2 ^ 29 → c ≤ 2 ^ 29 → IsBelow b x → AllBelow c high → y ≡ x → left ≡ high (k - 1) → right ≡ high (min k (high_count n - 1))
    → r ≡ y -ℤ int_shr (left +ℤ right +ℤ pos 2) 2 → passed r ≡ x -ℤ updated n high k
update_inverse_at b c n k x high r y left right most_b most_c small smalls same_y le ri e =
    let l = below_same c left _ le (smalls (k - 1)) in
    let h = below_same c right _ ri (smalls (min k (high_count n - 1))) in
    let s = left +ℤ right +ℤ pos 2 in
    let value : r ≡ x -ℤ int_shr s 2 = cc in
    let kept : passed r ≡ r = omega (arith, ints, value, quarter_low s, quarter_high s, small.least, small.most, l.least, l.most, h.least, h.most) in
    let named : r ≡ x -ℤ updated n high k = cc in
    kept ∙ named

pub predict_inverse_at : (b c n k : ℕ) (x : ℤ) (even : ℕ → ℤ) (r y left right : ℤ) → b ≤ 2 ^ 29 → c ≤ 2 ^ 29 → IsBelow b x → AllBelow c even → y ≡ x → left ≡ even k → right ≡ even (min (k + 1) (low_count n - 1))
    → r ≡ y +ℤ int_shr (left +ℤ right) 1 → passed r ≡ x +ℤ predicted_sample n even k
predict_inverse_at b c n k x even r y left right most_b most_c small smalls same_y le ri e =
    let l = below_same c left _ le (smalls k) in
    let h = below_same c right _ ri (smalls (min (k + 1) (low_count n - 1))) in
    let s = left +ℤ right in
    let value : r ≡ x +ℤ int_shr s 1 = cc in
    let kept : passed r ≡ r = omega (arith, ints, value, half_low s, half_high s, small.least, small.most, l.least, l.most, h.least, h.most) in
    let named : r ≡ x +ℤ predicted_sample n even k = cc in
    kept ∙ named

pub predict_forward_at : (b c n k : ℕ) (x : ℤ) (even : ℕ → ℤ) (r y left right : ℤ) → b ≤ 2 ^ 29 → c ≤ 2 ^ 29 → IsBelow b x → AllBelow c even → y ≡ x → left ≡ even k → right ≡ even (min (k + 1) (low_count n - 1))
    → r ≡ y -ℤ int_shr (left +ℤ right) 1 → passed r ≡ x -ℤ predicted_sample n even k
predict_forward_at b c n k x even r y left right most_b most_c small smalls same_y le ri e =
    let l = below_same c left _ le (smalls k) in
    let h = below_same c right _ ri (smalls (min (k + 1) (low_count n - 1))) in
    let s = left +ℤ right in
    let value : r ≡ x -ℤ int_shr s 1 = cc in
    let kept : passed r ≡ r = omega (arith, ints, value, half_low s, half_high s, small.least, small.most, l.least, l.most, h.least, h.most) in
    let named : r ≡ x -ℤ predicted_sample n even k = cc in
    kept ∙ named

pub below_passed : (bound : ℕ) (z : ℤ) → bound ≤ 2 ^ 29 → IsBelow bound z → IsBelow (2 ^ 29) (passed z)
below_passed bound z most small =
    let same = passed_small bound z most small in
    record { least = omega (arith, ints, same, small.least, small.most); most = omega (arith, ints, same, small.least, small.most) }

pub update_inverse_from : (b : ℕ) (x left right r y l h : ℤ) → b ≤ 2 ^ 29 → IsBelow b x → IsBelow b left → IsBelow b right → y ≡ x → l ≡ left → h ≡ right → r ≡ y -ℤ int_shr (l +ℤ h +ℤ pos 2) 2 → passed r ≡ x -ℤ int_shr (left +ℤ right +ℤ pos 2) 2
update_inverse_from b x left right r y l h most sx sl sh same_y same_l same_h e =
    let s = left +ℤ right +ℤ pos 2 in
    let value : r ≡ x -ℤ int_shr s 2 = cc in
    let kept : passed r ≡ r = omega (arith, ints, value, quarter_low s, quarter_high s, sx.least, sx.most, sl.least, sl.most, sh.least, sh.most) in
    kept ∙ value

pub predict_inverse_from : (b : ℕ) (x left right r y l h : ℤ) → b ≤ 2 ^ 29 → IsBelow b x → IsBelow b left → IsBelow b right → y ≡ x → l ≡ left → h ≡ right → r ≡ y +ℤ int_shr (l +ℤ h) 1 → passed r ≡ x +ℤ int_shr (left +ℤ right) 1
predict_inverse_from b x left right r y l h most sx sl sh same_y same_l same_h e =
    let s = left +ℤ right in
    let value : r ≡ x +ℤ int_shr s 1 = cc in
    let kept : passed r ≡ r = omega (arith, ints, value, half_low s, half_high s, sx.least, sx.most, sl.least, sl.most, sh.least, sh.most) in
    kept ∙ value

pub predict_forward_from : (b : ℕ) (x left right r y l h : ℤ) → b ≤ 2 ^ 29 → IsBelow b x → IsBelow b left → IsBelow b right → y ≡ x → l ≡ left → h ≡ right → r ≡ y -ℤ int_shr (l +ℤ h) 1 → passed r ≡ x -ℤ int_shr (left +ℤ right) 1
predict_forward_from b x left right r y l h most sx sl sh same_y same_l same_h e =
    let s = left +ℤ right in
    let value : r ≡ x -ℤ int_shr s 1 = cc in
    let kept : passed r ≡ r = omega (arith, ints, value, half_low s, half_high s, sx.least, sx.most, sl.least, sl.most, sh.least, sh.most) in
    kept ∙ value

pub update_forward_from : (b : ℕ) (x left right r y l h : ℤ) → b ≤ 2 ^ 29 → IsBelow b x → IsBelow b left → IsBelow b right → y ≡ x → l ≡ left → h ≡ right → r ≡ y +ℤ int_shr (l +ℤ h +ℤ pos 2) 2 → passed r ≡ x +ℤ int_shr (left +ℤ right +ℤ pos 2) 2
update_forward_from b x left right r y l h most sx sl sh same_y same_l same_h e =
    let s = left +ℤ right +ℤ pos 2 in
    let value : r ≡ x +ℤ int_shr s 2 = cc in
    let kept : passed r ≡ r = omega (arith, ints, value, quarter_low s, quarter_high s, sx.least, sx.most, sl.least, sl.most, sh.least, sh.most) in
    kept ∙ value

-- ---- shifts

six : (n : ℤ) → SFits w32 n → IsBelow (2 ^ 23) (n *ℤ pos 64) → to_z w32 (of_z w32 n * 64 % 4294967296) ≡ n *ℤ pos 64
six (pos m) fits small = omega (arith, ints, fits, small.least, small.most)
six (negsuc m) fits small =
    let few : m < 131072 = omega (arith, ints, small.least) in
    let old : of_z w32 (negsuc m) ≡ 4294967296 - suc m = refl in
    let new : of_z w32 (negsuc (64 * m + 63)) ≡ 4294967296 - suc (64 * m + 63) = refl in
    let word : of_z w32 (negsuc m) * 64 % 4294967296 ≡ of_z w32 (negsuc (64 * m + 63)) = omega (arith, old, new, few) in
    let product : negsuc m *ℤ pos 64 ≡ negsuc (64 * m + 63) = omega (arith, ints) in
    let kept : to_z w32 (of_z w32 (negsuc (64 * m + 63))) ≡ negsuc (64 * m + 63) = omega (arith, ints, few) in
    ap (to_z w32) word ∙ kept ∙ sym product

eight : (n : ℤ) → SFits w32 n → IsBelow (2 ^ 23) (n *ℤ pos 256) → to_z w32 (of_z w32 n * 256 % 4294967296) ≡ n *ℤ pos 256
eight (pos m) fits small = omega (arith, ints, fits, small.least, small.most)
eight (negsuc m) fits small =
    let few : m < 32768 = omega (arith, ints, small.least) in
    let old : of_z w32 (negsuc m) ≡ 4294967296 - suc m = refl in
    let new : of_z w32 (negsuc (256 * m + 255)) ≡ 4294967296 - suc (256 * m + 255) = refl in
    let word : of_z w32 (negsuc m) * 256 % 4294967296 ≡ of_z w32 (negsuc (256 * m + 255)) = omega (arith, old, new, few) in
    let product : negsuc m *ℤ pos 256 ≡ negsuc (256 * m + 255) = omega (arith, ints) in
    let kept : to_z w32 (of_z w32 (negsuc (256 * m + 255))) ≡ negsuc (256 * m + 255) = omega (arith, ints, few) in
    ap (to_z w32) word ∙ kept ∙ sym product

pub shifted_six : (n : ℤ) (f : ℕ) → f ≡ 6 → SFits w32 n → IsBelow (2 ^ 23) (n *ℤ pos (2 ^ f)) → to_z w32 (of_z w32 n * 2 ^ f % 4294967296) ≡ n *ℤ pos (2 ^ f)
shifted_six n f is fits small =
    subst (λ k. to_z w32 (of_z w32 n * 2 ^ k % 4294967296) ≡ n *ℤ pos (2 ^ k)) (sym is) (six n fits (subst (λ k. IsBelow (2 ^ 23) (n *ℤ pos (2 ^ k))) is small))

pub shifted_eight : (n : ℤ) (f : ℕ) → f ≡ 8 → SFits w32 n → IsBelow (2 ^ 23) (n *ℤ pos (2 ^ f)) → to_z w32 (of_z w32 n * 2 ^ f % 4294967296) ≡ n *ℤ pos (2 ^ f)
shifted_eight n f is fits small =
    subst (λ k. to_z w32 (of_z w32 n * 2 ^ k % 4294967296) ≡ n *ℤ pos (2 ^ k)) (sym is) (eight n fits (subst (λ k. IsBelow (2 ^ 23) (n *ℤ pos (2 ^ k))) is small))

-- ---- samples

clamped_most : (most : ℕ) (z : ℤ) → clamped most z ≤ most
clamped_most most (pos n) = omega arith
clamped_most most (negsuc n) = omega arith

pub sample_below : (depth bw : ℕ) (z : ℤ) → scale_out depth bw z < 2 ^ depth
sample_below depth bw z = let some = pow_pos depth in omega (arith, some, clamped_most (2 ^ depth - 1) (int_shr (z +ℤ pos (2 ^ (bw - 1)) +ℤ pos (2 ^ (bw - depth - 1))) (bw - depth)))
