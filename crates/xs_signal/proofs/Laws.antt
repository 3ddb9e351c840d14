-- The laws of the definitions.
use Rattle.std.proofs.Common.{◌≡◌, ℕ, zero, suc, ◌*◌, ◌+◌, ◌-◌, ◌/◌, ◌^◌, ◌<◌, ◌≤◌, ℤ, pos, ◌+ℤ◌, ◌-ℤ◌, ◌*ℤ◌, arith, ap, sym, ◌∙◌, refl}
use Rattle.std.proofs.lemmas.Int.{ints}
use Rattle.std.proofs.lemmas.Nat.{shr_high, shr_le, shr_below, shr_split, pow_below, pow-add}
use Rattle.std.proofs.Math.Nat.{pow-le-pow_right, mul-le-mul_left, mul-le-mul_right}
use Rattle.std.specs.Int.{int_shr}
use Rattle.xs_signal.specs.Colour.{rct, unrct, ColourUndone}
use Rattle.xs_signal.specs.Samples.{clamped, scale_in, ScaleOutUndoesIn}
use Rattle.xs_signal.specs.Quantiser.{shift_sum, uniform, ShiftSumEnds, QuantisedFits}
use Rattle.xs_layout.specs.declared.Quant.TheVariants.{DeadZone, Uniform}
use Rattle.xs_signal.proofs.Floors.{quarter_more}

-- ---- colour

pub triple : (a b c x y z : ℤ) → a ≡ x → b ≡ y → c ≡ z → ◌≡◌ {A = ℤ × ℤ × ℤ} (a, b, c) (x, y, z)
triple a b c x y z p q r =
    let of : ℤ → ℤ → ℤ → ℤ × ℤ × ℤ = λ k l m. (k, l, m) in
    ap (λ t. of t b c) p ∙ ap (λ t. of x t c) q ∙ ap (λ t. of x y t) r

colour_back : (r g b : ℤ) → let t = rct r g b in unrct t.0 t.1 t.2 ≡ (r, g, b)
colour_back r g b =
    let u = b -ℤ g in
    let v = r -ℤ g in
    let sum : r +ℤ pos 2 *ℤ g +ℤ b ≡ u +ℤ v +ℤ pos 4 *ℤ g = omega (arith, ints) in
    let luma = quarter_more (u +ℤ v) g (r +ℤ pos 2 *ℤ g +ℤ b) sum in
    let green : int_shr (r +ℤ pos 2 *ℤ g +ℤ b) 2 -ℤ int_shr (u +ℤ v) 2 ≡ g = omega (arith, ints, luma) in
    triple _ _ _ r g b (omega (arith, ints, green)) green (omega (arith, ints, green))

colour_forth : (y u v : ℤ) → let t = unrct y u v in rct t.0 t.1 t.2 ≡ (y, u, v)
colour_forth y u v =
    let g = y -ℤ int_shr (u +ℤ v) 2 in
    let sum : v +ℤ g +ℤ pos 2 *ℤ g +ℤ (u +ℤ g) ≡ u +ℤ v +ℤ pos 4 *ℤ g = omega (arith, ints) in
    let luma = quarter_more (u +ℤ v) g (v +ℤ g +ℤ pos 2 *ℤ g +ℤ (u +ℤ g)) sum in
    triple _ _ _ y u v (omega (arith, ints, luma)) (omega (arith, ints)) (omega (arith, ints))

pub colour_undone : ColourUndone
colour_undone = record { back = colour_back; forth = colour_forth }

-- ---- samples

pub scale_out_undoes_in : ScaleOutUndoesIn
scale_out_undoes_in depth bw sample some less fits =
    let step = bw - depth in
    let half = 2 ^ (bw - depth - 1) in
    let small : half < 2 ^ step = pow_below (bw - depth - 1) step (omega arith) in
    let sum : scale_in depth bw sample +ℤ pos (2 ^ (bw - 1)) +ℤ pos half ≡ pos (sample * 2 ^ step + half) = omega (arith, ints) in
    ap (λ z. clamped (2 ^ depth - 1) (int_shr z step)) sum ∙ omega (arith, shr_high sample step half small)

-- ---- quantisers

pub shift_sum_zero : (step n : ℕ) → shift_sum step n 0 ≡ 0
shift_sum_zero step zero = refl
shift_sum_zero step (suc n) = let none : 0 / 2 ^ step ≡ 0 = omega (arith, shr_le 0 step) in omega (arith, ap (shift_sum step n) none, shift_sum_zero step n)

pub shift_sum_ends : ShiftSumEnds
shift_sum_ends step zero more f some small =
    let none : f ≡ 0 = omega arith in
    let all : 0 + more ≡ more = omega arith in
    ap (λ n. shift_sum step n f) all ∙ ap (shift_sum step more) none ∙ shift_sum_zero step more
shift_sum_ends step (suc n) more f some small =
    let next : suc n + more ≡ suc (n + more) = omega arith in
    let wide : 2 ^ suc n ≤ 2 ^ (n + step) = pow-le-pow_right (omega arith) (omega arith) in
    let less : f / 2 ^ step < 2 ^ n = shr_below f n step (omega arith) in
    ap (λ k. shift_sum step k f) next ∙ ap (λ k. f + k) (shift_sum_ends step n more (f / 2 ^ step) some less)

-- the first term and the sum of the rest, with as many terms
pub shift_sum_step : (step count f : ℕ) → 0 < step → f < 2 ^ count → f + shift_sum step count (f / 2 ^ step) ≡ shift_sum step count f
shift_sum_step step zero f some small = let none : f ≡ 0 = omega arith in omega arith
shift_sum_step step (suc n) f some small =
    let next : n + 1 ≡ suc n = omega arith in
    let wide : 2 ^ suc n ≤ 2 ^ (n + step) = pow-le-pow_right (omega arith) (omega arith) in
    let less : f / 2 ^ step < 2 ^ n = shr_below f n step (omega arith) in
    ap (λ k. f + shift_sum step k (f / 2 ^ step)) (sym next) ∙ ap (λ k. f + k) (shift_sum_ends step n 1 (f / 2 ^ step) some less)

-- a shift halves at least
pub shift_halves : (step f : ℕ) → 0 < step → 2 * (f / 2 ^ step) ≤ f
shift_halves step f some =
    let least : 1 ≤ step = omega arith in
    let twice : 2 ^ 1 ≤ 2 ^ step = pow-le-pow_right {n = 2} (omega arith) {i = 1} {j = step} least in
    omega (arith, shr_split f step, mul-le-mul_left (f / 2 ^ step) twice)

uniform_fits : (count cut x : ℕ) → cut ≤ count → x < 2 ^ count → uniform count cut x < 2 ^ (count - cut)
uniform_fits count cut x inside small =
    let z = count - cut + 1 in
    let less : 1 ≤ z = omega arith in
    let two : 2 ^ 1 ≤ 2 ^ z = pow-le-pow_right {n = 2} (omega arith) {i = 1} {j = z} less in
    let w = 2 ^ z - 1 in
    let whole : 2 ^ z ≡ w + 1 = omega arith in
    let product : (x + 1) * w ≤ 2 ^ count * w = mul-le-mul_right w (omega arith) in
    let here = ap (λ p. x * p) whole in
    let there = ap (λ p. 2 ^ count * p) whole in
    let together : 2 ^ (count - cut + (count + 1)) ≡ 2 ^ count * 2 ^ z = let e : count - cut + (count + 1) ≡ count + z = omega arith in ap (λ k. 2 ^ k) e ∙ pow-add 2 count z in
    shr_below (x * 2 ^ z - x + 2 ^ count) (count - cut) (count + 1) (omega arith)

pub quantised_fits : QuantisedFits
quantised_fits DeadZone count cut x inside small = let back : count - cut + cut ≡ count = omega arith in let more = ap (λ k. 2 ^ k) back in shr_below x (count - cut) cut (omega arith)
quantised_fits Uniform count cut x inside small = uniform_fits count cut x inside small
