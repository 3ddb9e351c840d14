-- The binary digits of a magnitude.
use Rattle.std.proofs.Common.{◌≡◌, ℕ, zero, suc, ◌+◌, ◌-◌, ◌^◌, ◌<◌, ◌≤◌, min, [], ◌∷◌, ◌++◌, refl, sym, ap, subst, ◌∙◌, arith, inl, inr}
use Rattle.std.specs.Prelude.{Bool, true, false, nat_le, if◌then◌else◌, count_by, ◌⊎◌}
use Rattle.std.proofs.lemmas.Bool.{leb-true, leb-false, le-leb, cases_lt}
use Rattle.std.proofs.lemmas.List.Sums.{sum_by_push}
use Rattle.std.proofs.Math.Pow.{pow_mono}
use Rattle.xs_lists.specs.Spelling.{upto}
use Rattle.xs_lists.proofs.Each.{range-more}
use Rattle.xs_rate.specs.Content.{digits_of}

-- how many of the first n powers of two are not over m
abbrev powers : ℕ → ℕ → ℕ
powers m n = count_by (λ k. nat_le (2 ^ k) m) (upto n)

abbrev one_if : Bool → ℕ
one_if test = if test then 1 else 0

powers-more : (m n : ℕ) → powers m (suc n) ≡ powers m n + one_if (nat_le (2 ^ n) m)
powers-more m n =
    let next : suc n ≡ n + 1 = omega arith in
    let here : 0 + n ≡ n = omega arith in
    ap (powers m) next ∙ ap (count_by (λ k. nat_le (2 ^ k) m)) (range-more 0 n ∙ ap (λ k. upto n ++ k ∷ []) here)
    ∙ sum_by_push (λ k. one_if (nat_le (2 ^ k) m)) (upto n) n

-- either all of them are not over m, or m is below the power of as many as there are
some_over : (m n : ℕ) → (powers m n ≡ n) ⊎ ((m < 2 ^ powers m n) × (powers m n < n))
some_over m zero = inl refl
some_over m (suc n) = elim (some_over m n) [
  | inl all ↦ cases (nat_le (2 ^ n) m) refl all
  | inr some ↦ cases_less (nat_le (2 ^ n) m) refl some
]
  where
    cases : (test : Bool) → nat_le (2 ^ n) m ≡ test → powers m n ≡ n → (powers m (suc n) ≡ suc n) ⊎ ((m < 2 ^ powers m (suc n)) × (powers m (suc n) < suc n))
    cases true is all = inl (omega (arith, powers-more m n, ap one_if is, all))
    cases false is all =
        let same : powers m (suc n) ≡ n = omega (arith, powers-more m n, ap one_if is, all) in
        inr (subst (λ k. m < 2 ^ k) (sym same) (leb-false (2 ^ n) m is), omega (arith, same))

    cases_less : (test : Bool) → nat_le (2 ^ n) m ≡ test → (m < 2 ^ powers m n) × (powers m n < n) → (powers m (suc n) ≡ suc n) ⊎ ((m < 2 ^ powers m (suc n)) × (powers m (suc n) < suc n))
    cases_less true is some = absurd (omega (arith, leb-true (2 ^ n) m is, some.0, pow_mono {i = powers m n} {j = n} (omega (arith, some.1))))
    cases_less false is some =
        let same : powers m (suc n) ≡ powers m n = omega (arith, powers-more m n, ap one_if is) in
        inr (subst (λ k. m < 2 ^ k) (sym same) some.0, omega (arith, same, some.1))

-- a magnitude of 15 bits has so many digits
pub digits-room : (m : ℕ) → m < 2 ^ 15 → m < 2 ^ digits_of m
digits-room m small = elim (some_over m 15) [
  | inl all ↦ subst (λ k. m < 2 ^ k) (sym all) small
  | inr some ↦ some.0
]

pub digits-most : (m : ℕ) → digits_of m ≤ 15
digits-most m = elim (some_over m 15) [
  | inl all ↦ omega (arith, all)
  | inr some ↦ omega (arith, some.1)
]

powers-until : (m n : ℕ) → m < 2 ^ n → (0 < n → 2 ^ (n - 1) ≤ m) → (k : ℕ) → powers m k ≡ min k n
powers-until m n below above zero = omega arith
powers-until m n below above (suc k) = elim (cases_lt k n) [
  | inl less ↦
      let power : 2 ^ k ≤ 2 ^ (n - 1) = pow_mono {i = k} {j = n - 1} (omega (arith, less)) in
      let over : 2 ^ (n - 1) ≤ m = above (omega (arith, less)) in
      let yes : nat_le (2 ^ k) m ≡ true = le-leb (2 ^ k) m (omega (arith, power, over)) in
      omega (arith, powers-more m k, ap one_if yes, powers-until m n below above k, less)
  | inr past ↦
      let power : 2 ^ n ≤ 2 ^ k = pow_mono {i = n} {j = k} past in
      let no : nat_le (2 ^ k) m ≡ false = not_le (2 ^ k) m (omega (arith, power, below)) in
      omega (arith, powers-more m k, ap one_if no, powers-until m n below above k, past)
]
  where
    not_le : (a b : ℕ) → b < a → nat_le a b ≡ false
    not_le a b less = go (nat_le a b) refl
      where
        go : (test : Bool) → nat_le a b ≡ test → test ≡ false
        go true is = absurd (omega (arith, leb-true a b is, less))
        go false is = refl

-- and no other number of digits has room for it and for no less
pub digits-are : (m n : ℕ) → n ≤ 15 → m < 2 ^ n → (0 < n → 2 ^ (n - 1) ≤ m) → digits_of m ≡ n
digits-are m n most below above = omega (arith, powers-until m n below above 15, most)
