-- Ranges of numbers, cut at the front, with the sums and the lists of their numbers.
use Rattle.std.proofs.Common.{◌≡◌, ℕ, zero, suc, ◌+◌, ◌-◌, ◌<◌, ◌≤◌, List, [], ◌∷◌, ◌++◌, sum_by, sym, ap, ◌∙◌, arith, append_assoc}
use Rattle.std.specs.List.{range_with_len, flat_map}
use Rattle.std.proofs.lemmas.List.Sums.{sum_by-cons}

-- a range that is not empty has a first number
pub range_first : (first n : ℕ) → first < n → range_with_len first (n - first) ≡ first ∷ range_with_len (first + 1) (n - (first + 1))
range_first first n less = let more : n - first ≡ suc (n - (first + 1)) = omega (arith, less) in ap (range_with_len first) more

pub range_end : (first n : ℕ) → n ≤ first → range_with_len first (n - first) ≡ []
range_end first n past = let none : n - first ≡ 0 = omega (arith, past) in ap (range_with_len first) none

pub range_cut : (first m n : ℕ) → range_with_len first (m + n) ≡ range_with_len first m ++ range_with_len (first + m) n
range_cut first zero n =
    let none : 0 + n ≡ n = omega arith in
    let here : first ≡ first + 0 = omega arith in
    ap (range_with_len first) none ∙ ap (λ k. range_with_len k n) here
range_cut first (suc m) n =
    let more : suc m + n ≡ suc (m + n) = omega arith in
    let next : first + 1 + m ≡ first + suc m = omega arith in
    ap (range_with_len first) more ∙
    ap (λ l. first ∷ l) (range_cut (first + 1) m n ∙ ap (λ k. range_with_len (first + 1) m ++ range_with_len k n) next)

pub sum_first : (f : ℕ → ℕ) (k end : ℕ) → k < end → sum_by f (range_with_len k (end - k)) ≡ f k + sum_by f (range_with_len (k + 1) (end - (k + 1)))
sum_first f k end less = ap (sum_by f) (range_first k end less) ∙ sum_by-cons f k (range_with_len (k + 1) (end - (k + 1)))

-- what is written of a range moves from what is left to what is there
pub bits_first : (f : ℕ → List ℕ) (k end : ℕ) (out new whole : List ℕ) → k < end → whole ≡ out ++ flat_map f (range_with_len k (end - k)) → new ≡ out ++ f k
    → whole ≡ new ++ flat_map f (range_with_len (k + 1) (end - (k + 1)))
bits_first f k end out new whole less before put =
    before ∙ ap (λ l. out ++ flat_map f l) (range_first k end less) ∙ sym (append_assoc out (f k) (flat_map f (range_with_len (k + 1) (end - (k + 1)))))
    ∙ ap (λ l. l ++ flat_map f (range_with_len (k + 1) (end - (k + 1)))) (sym put)
