-- Ascending numbers are told by which they are.
use Rattle.std.proofs.Common.{◌≡◌, ℕ, zero, suc, ◌+◌, ◌<◌, ◌≤◌, List, [], ◌∷◌, length, get_or, refl, sym, ap, subst, ◌∙◌, arith, inl, inr, Contains}
use Rattle.std.specs.List.Sorted.{IsStrictlyIncreasing}
use Rattle.std.proofs.lemmas.List.{get_or_default}
use Rattle.xs_lists.specs.Ascending.{ListsAscending}
use Rattle.xs_capture.proofs.Firsts.{cons_cases, here, there}

tail_rises : (x : ℕ) (xs : List ℕ) → IsStrictlyIncreasing (x ∷ xs) → IsStrictlyIncreasing xs
tail_rises x xs rising k below =
    let e : suc k + 1 ≡ suc (k + 1) = omega arith in
    subst (λ i. get_or xs k 0 < get_or (x ∷ xs) i 0) e (rising (suc k) (omega (arith, below)))

head_least : (x : ℕ) (xs : List ℕ) → IsStrictlyIncreasing (x ∷ xs) → (k : ℕ) → k < length xs → x < get_or xs k 0
head_least x xs rising zero below = rising 0 (omega (arith, below))
head_least x xs rising (suc k) below =
    let e : k + 1 ≡ suc k = omega arith in
    let step : get_or xs k 0 < get_or xs (suc k) 0 = subst (λ i. get_or xs k 0 < get_or xs i 0) e (tail_rises x xs rising k (omega (arith, below))) in
    let before = head_least x xs rising k (omega (arith, below)) in
    omega (arith, step, before)

-- all others are greater than the first
later : (x n : ℕ) (xs : List ℕ) → IsStrictlyIncreasing (x ∷ xs) → Contains xs n → x < n
later x n xs rising has =
    let same : get_or xs has.0 0 ≡ n = get_or_default xs has.0 0 n has.1 ∙ has.2 in
    subst (λ m. x < m) same (head_least x xs rising has.0 has.1)

one_list : (xs ys : List ℕ) → IsStrictlyIncreasing xs → IsStrictlyIncreasing ys → ((n : ℕ) → Contains xs n → Contains ys n) → ((n : ℕ) → Contains ys n → Contains xs n) → xs ≡ ys
one_list [] [] p q to from = refl
one_list [] (y ∷ ys) p q to from = let has = from y (here y ys) in absurd (omega (arith, has.1))
one_list (x ∷ xs) [] p q to from = let has = to x (here x xs) in absurd (omega (arith, has.1))
one_list (x ∷ xs) (y ∷ ys) p q to from = ap (λ n. n ∷ xs) same ∙ ap (λ l. y ∷ l) (one_list xs ys (tail_rises x xs p) (tail_rises y ys q) forth back)
  where
    above : (a b : ℕ) (first second : List ℕ) → IsStrictlyIncreasing (a ∷ first) → IsStrictlyIncreasing (b ∷ second) → Contains (b ∷ second) a → b ≤ a
    above a b first second s t has = elim (cons_cases b a second has) [
      | inl e ↦ omega (arith, e)
      | inr rest ↦ let less = later b a second t rest in omega (arith, less)
    ]

    same : x ≡ y
    same =
        let low = above x y xs ys p q (to x (here x xs)) in
        let high = above y x ys xs q p (from y (here y ys)) in
        omega (arith, low, high)

    kept : (a b : ℕ) (first second : List ℕ) → IsStrictlyIncreasing (a ∷ first) → a ≡ b → (n : ℕ) → Contains first n → Contains (b ∷ second) n → Contains second n
    kept a b first second s e n has found = elim (cons_cases b n second found) [
      | inl one ↦ let less = later a n first s has in absurd (omega (arith, less, one, e))
      | inr rest ↦ rest
    ]

    forth : (n : ℕ) → Contains xs n → Contains ys n
    forth n has = kept x y xs ys p same n has (to n (there x n xs has))

    back : (n : ℕ) → Contains ys n → Contains xs n
    back n has = kept y x ys xs q (sym same) n has (from n (there y n ys has))

pub one_ascending : (P : ℕ → Type 0) (xs ys : List ℕ) → ListsAscending P xs → ListsAscending P ys → xs ≡ ys
one_ascending P xs ys p q = one_list xs ys p.ascending q.ascending (λ n has. (q.those n).1 ((p.those n).0 has)) (λ n has. (p.those n).1 ((q.those n).0 has))
