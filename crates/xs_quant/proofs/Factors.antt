-- What a number that was sent stands for is a product with one factor, rounded down.
use Rattle.std.proofs.Common.{◌≡◌, ℕ, zero, suc, ◌+◌, ◌-◌, ◌*◌, ◌/◌, ◌%◌, ◌^◌, ◌<◌, ◌≤◌, inl, inr, sym, ap, subst, ◌∙◌, arith}
use Rattle.std.specs.Prelude.{nat_lt, if◌then◌else◌}
use Rattle.std.proofs.Math.Nat.{div-div-eq-div-mul, div-eq_of_lt, mod-lt, mul-div_cancel, mul-le-mul_left, mul-le-mul_right, mul-mod_left, mul_comm, pow-le-pow_right, pow-suc}
use Rattle.std.proofs.Math.Pow.{pow_mono}
use Rattle.std.proofs.lemmas.Bool.{cases_lt, lt-ltb, le-ltb}
use Rattle.std.proofs.lemmas.Nat.{mod-pow-add, pow-add, pow_pos, shr_le}
use Rattle.xs_signal.specs.Quantiser.{shift_sum, uniform_back}
use Rattle.xs_signal.proofs.Laws.{shift_halves, shift_sum_step, shift_sum_zero}
use Rattle.xs_signal.proofs.Magnitudes.{unquantised_fits}
use Rattle.xs_layout.specs.declared.Quant.TheVariants.{Uniform}
use Rattle.xs_quant.specs.Rows.{factor_of}

carry : (a b : ℕ) → a % 65536 + b % 65536 < 65536 → (a + b) / 65536 ≡ a / 65536 + b / 65536
carry a b fits = omega (arith, fits)

-- the sum is at most twice its first term
pub sum_most : (step n f : ℕ) → 0 < step → shift_sum step n f ≤ 2 * f
sum_most step zero f some = omega arith
sum_most step (suc n) f some =
    let half = shift_halves step f some in
    let rest = sum_most step n (f / 2 ^ step) some in
    omega (arith, half, rest)

-- what v times 2 ^ e has behind the point are whole numbers of 2 ^ e
rest_most : (v e : ℕ) → e ≤ 16 → (v * 2 ^ e) % 65536 + 2 ^ e ≤ 65536
rest_most v e few =
    let sum : 16 - e + e ≡ 16 = omega (arith, few) in
    let q = (v * 2 ^ e) / 2 ^ e % 2 ^ (16 - e) in
    let whole : 2 ^ (16 - e) * 2 ^ e ≡ 65536 = sym (pow-add 2 (16 - e) e) ∙ ap (λ k. 2 ^ k) sum in
    let split : (v * 2 ^ e) % 65536 ≡ q * 2 ^ e + (v * 2 ^ e) % 2 ^ e = ap (λ k. (v * 2 ^ e) % 2 ^ k) (sym sum) ∙ mod-pow-add (v * 2 ^ e) (16 - e) e in
    let none : (v * 2 ^ e) % 2 ^ e ≡ 0 = mul-mod_left v (2 ^ e) in
    let below : q < 2 ^ (16 - e) = mod-lt ((v * 2 ^ e) / 2 ^ e) (pow_pos (16 - e)) in
    let most : (q + 1) * 2 ^ e ≤ 2 ^ (16 - e) * 2 ^ e = mul-le-mul_right (2 ^ e) (omega (arith, below)) in
    let one : (q + 1) * 2 ^ e ≡ q * 2 ^ e + 2 ^ e = grind arith in
    omega (arith, whole, split, none, most, one)

-- behind 16 digits there is none left
rest_none : (v e : ℕ) → 16 ≤ e → (v * 2 ^ e) % 65536 ≡ 0
rest_none v e more =
    let sum : e ≡ e - 16 + 16 = omega (arith, more) in
    let split : v * 2 ^ e ≡ v * 2 ^ (e - 16) * 65536 =
    let two = ap (λ k. 2 ^ k) sum ∙ pow-add 2 (e - 16) 16 in
    let regroup : v * (2 ^ (e - 16) * 65536) ≡ v * 2 ^ (e - 16) * 65536 = grind arith in
    ap (λ p. v * p) two ∙ regroup in
    ap (λ n. n % 65536) split ∙ mul-mod_left (v * 2 ^ (e - 16)) 65536

-- the digits of the later terms stand below those of the first
apart : (v e b : ℕ) → b < 2 ^ e → (v * 2 ^ e) % 65536 + b % 65536 < 65536
apart v e b small =
    elim (cases_lt 16 e) [
      | inl more ↦ let none = rest_none v e (omega (arith, more)) in omega (arith, none)
      | inr few ↦ let most = rest_most v e (omega (arith, few)) in omega (arith, most, small)
    ]

pub product : (step e m n v : ℕ) → 0 < step → step ≤ 16 → v < 2 ^ (step - 1) → e < m → v * 2 ^ e / 65536 < 2 ^ n → shift_sum step n (v * 2 ^ e / 65536) ≡ v * shift_sum step m (2 ^ e) / 65536
product step e zero n v some few small inside fits = absurd (omega (arith, inside))
product step e (suc m) n v some few small inside fits = elim (cases_lt e step) [ inl flat ↦ last flat | inr deep ↦ more (omega (arith, deep)) (product step (e - step) m n v some few small) ]
  where
    f : ℕ
    f = v * 2 ^ e / 65536

    head : f + shift_sum step n (f / 2 ^ step) ≡ shift_sum step n f
    head = shift_sum_step step n f some fits

    last : e < step → shift_sum step n f ≡ v * shift_sum step (suc m) (2 ^ e) / 65536
    last flat =
        let grow : 2 ^ (e + 1) ≤ 2 ^ step = pow-le-pow_right (omega arith) (omega (arith, flat)) in
        let twice : 2 ^ (e + 1) ≡ 2 ^ e * 2 = let one : e + 1 ≡ suc e = omega arith in ap (λ k. 2 ^ k) one ∙ pow-suc 2 e in
        let some_left = pow_pos e in
        let none : 2 ^ e / 2 ^ step ≡ 0 = nothing (2 ^ e) step (omega (arith, grow, twice, some_left)) in
        let half : 2 ^ (step - 1) ≤ 2 ^ 15 = pow_mono {i = step - 1} {j = 15} (omega (arith, few)) in
        let most : v * 2 ^ e ≤ 32768 * 2 ^ e = mul-le-mul_right (2 ^ e) (omega (arith, small, half)) in
        let low : f / 2 ^ step ≡ 0 = nothing f step (omega (arith, most, grow, twice, some_left)) in
        let right : shift_sum step (suc m) (2 ^ e) ≡ 2 ^ e = ap (λ k. 2 ^ e + k) (ap (shift_sum step m) none ∙ shift_sum_zero step m) ∙ (let z : 2 ^ e + 0 ≡ 2 ^ e = omega arith in z) in
        let left : f + shift_sum step n (f / 2 ^ step) ≡ f = ap (λ k. f + k) (ap (shift_sum step n) low ∙ shift_sum_zero step n) ∙ (let z : f + 0 ≡ f = omega arith in z) in
        sym head ∙ left ∙ sym (ap (λ s. v * s / 65536) right)
      where
        nothing : (x k : ℕ) → x < 2 ^ k → x / 2 ^ k ≡ 0
        nothing x k below = div-eq_of_lt below

    more : step ≤ e → (e - step < m → v * 2 ^ (e - step) / 65536 < 2 ^ n → shift_sum step n (v * 2 ^ (e - step) / 65536) ≡ v * shift_sum step m (2 ^ (e - step)) / 65536) → shift_sum step n f ≡ v * shift_sum step (suc m) (2 ^ e) / 65536
    more deep before =
        let r = e - step in
        let s = shift_sum step m (2 ^ r) in
        let back : e ≡ r + step = omega (arith, deep) in
        let pow : 2 ^ e ≡ 2 ^ r * 2 ^ step = ap (λ k. 2 ^ k) back ∙ pow-add 2 r step in
        let next : 2 ^ e / 2 ^ step ≡ 2 ^ r = ap (λ p. p / 2 ^ step) pow ∙ mul-div_cancel (2 ^ r) (pow_pos step) in
        let times : v * 2 ^ e ≡ v * 2 ^ r * 2 ^ step = let regroup : v * (2 ^ r * 2 ^ step) ≡ v * 2 ^ r * 2 ^ step = grind arith in ap (λ p. v * p) pow ∙ regroup in
        let low : f / 2 ^ step ≡ v * 2 ^ r / 65536 =
        div-div-eq-div-mul (v * 2 ^ e) 65536 (2 ^ step) ∙ ap (λ d. v * 2 ^ e / d) (mul_comm 65536 (2 ^ step)) ∙ sym (div-div-eq-div-mul (v * 2 ^ e) (2 ^ step) 65536)
        ∙ ap (λ p. p / 65536) (ap (λ p. p / 2 ^ step) times ∙ mul-div_cancel (v * 2 ^ r) (pow_pos step)) in
        let room : v * 2 ^ r / 65536 < 2 ^ n = let less = shr_le f step in omega (arith, less, low, fits) in
        let rest : shift_sum step n (v * 2 ^ r / 65536) ≡ v * s / 65536 = before (omega (arith, deep, some, inside)) room in
        let most : s ≤ 2 * 2 ^ r = sum_most step m (2 ^ r) some in
        let bound : v * s ≤ v * (2 * 2 ^ r) = mul-le-mul_left v most in
        let wide : (v + 1) * (2 * 2 ^ r) ≤ 2 ^ (step - 1) * (2 * 2 ^ r) = mul-le-mul_right (2 * 2 ^ r) (omega (arith, small)) in
        let all : 2 ^ (step - 1) * (2 * 2 ^ r) ≡ 2 ^ e =
        let one : step - 1 + (r + 1) ≡ e = omega (arith, back, some) in
        let two : 2 ^ (r + 1) ≡ 2 * 2 ^ r = (let s : r + 1 ≡ suc r = omega arith in ap (λ k. 2 ^ k) s) ∙ pow-suc 2 r ∙ mul_comm (2 ^ r) 2 in
        ap (λ p. 2 ^ (step - 1) * p) (sym two) ∙ sym (pow-add 2 (step - 1) (r + 1)) ∙ ap (λ k. 2 ^ k) one in
        let more_one : (v + 1) * (2 * 2 ^ r) ≡ v * (2 * 2 ^ r) + 2 * 2 ^ r = grind arith in
        let some_left = pow_pos r in
        let small_rest : v * s < 2 ^ e = omega (arith, bound, wide, all, more_one, some_left) in
        let sum : v * (2 ^ e + s) ≡ v * 2 ^ e + v * s = grind arith in
        sym head ∙ ap (λ k. f + k) (ap (shift_sum step n) low ∙ rest) ∙ sym (carry (v * 2 ^ e) (v * s) (apart v e (v * s) small_rest)) ∙ ap (λ k. k / 65536) (sym sum)
        ∙ ap (λ k. v * (2 ^ e + k) / 65536) (sym (ap (shift_sum step m) next))

-- what a number stands for
pub by_factor : (count cut v : ℕ) → count ≤ 15 → v < 2 ^ (count - cut) → v * factor_of cut count / 65536 ≡ (if nat_lt cut count then uniform_back count cut v else 0)
by_factor count cut v few small = elim (cases_lt cut count) [ inl inside ↦ some inside | inr past ↦ none (omega (arith, past)) ]
  where
    some : cut < count → v * factor_of cut count / 65536 ≡ (if nat_lt cut count then uniform_back count cut v else 0)
    some inside =
        let step = count - cut + 1 in
        let planes : step - 1 ≡ count - cut = omega arith in
        let small_step : v < 2 ^ (step - 1) = subst (λ k. v < 2 ^ k) (sym planes) small in
        let whole : v * 2 ^ (cut + 16) / 65536 ≡ v * 2 ^ cut =
        let regroup : v * (2 ^ cut * 65536) ≡ v * 2 ^ cut * 65536 = grind arith in
        ap (λ p. v * p / 65536) (pow-add 2 cut 16) ∙ ap (λ p. p / 65536) regroup ∙ mul-div_cancel (v * 2 ^ cut) (omega arith) in
        let room : v * 2 ^ cut < 2 ^ count =
        let sum : count - cut + cut ≡ count = omega (arith, inside) in
        let pow : 2 ^ count ≡ 2 ^ (count - cut) * 2 ^ cut = ap (λ k. 2 ^ k) (sym sum) ∙ pow-add 2 (count - cut) cut in
        let most : (v + 1) * 2 ^ cut ≤ 2 ^ (count - cut) * 2 ^ cut = mul-le-mul_right (2 ^ cut) (omega (arith, small)) in
        let one : (v + 1) * 2 ^ cut ≡ v * 2 ^ cut + 2 ^ cut = grind arith in
        let left = pow_pos cut in
        omega (arith, pow, most, one, left) in
        let is = product step (cut + 16) (cut + 17) count v (omega arith) (omega (arith, few)) small_step (omega arith) (omega (arith, whole, room)) in
        ap (λ b. v * (if b then shift_sum step (cut + 17) (2 ^ (cut + 16)) else 0) / 65536) (lt-ltb cut count inside) ∙ sym is ∙ ap (shift_sum step count) whole
        ∙ sym (ap (λ b. if b then uniform_back count cut v else 0) (lt-ltb cut count inside))

    none : count ≤ cut → v * factor_of cut count / 65536 ≡ (if nat_lt cut count then uniform_back count cut v else 0)
    none past =
        let zero_times : v * 0 / 65536 ≡ 0 = omega arith in
        ap (λ b. v * (if b then shift_sum (count - cut + 1) (cut + 17) (2 ^ (cut + 16)) else 0) / 65536) (le-ltb cut count past) ∙ zero_times
        ∙ sym (ap (λ b. if b then uniform_back count cut v else 0) (le-ltb cut count past))

-- the product has room in 31 bits
pub product_fits : (count cut v : ℕ) → count ≤ 15 → v < 2 ^ (count - cut) → v * factor_of cut count < 2 ^ 31
product_fits count cut v few small =
    let value = by_factor count cut v few small in
    let most : v * factor_of cut count / 65536 < 2 ^ 15 = elim (cases_lt cut count) [
      | inl inside ↦
          let back = unquantised_fits Uniform count cut v (omega (arith, inside)) small in
          let high : 2 ^ count ≤ 2 ^ 15 = pow_mono {i = count} {j = 15} few in
          let is = ap (λ b. if b then uniform_back count cut v else 0) (lt-ltb cut count inside) in
          omega (arith, value, is, back, high)
      | inr past ↦ let is = ap (λ b. if b then uniform_back count cut v else 0) (le-ltb cut count (omega (arith, past))) in omega (arith, value, is)
    ] in
    omega (arith, most)
