-- Lists of which one element changes, and sums over them.
use Rattle.std.proofs.Common.{◌≡◌, ◌≢◌, ℕ, zero, suc, ◌+◌, ◌<◌, ◌≤◌, List, [], ◌∷◌, ◌++◌, length, get_or, set, sum_by, sym, refl, ap, subst, arith, get_or-set_same, get_or-set_other}
use Rattle.std.proofs.lemmas.List.Sums.{sum_by-cons, get_or-le-sum_by}
use mathlib.Core.Logic.{dite}
use native.Mathlib.Decide.{ℕ_discrete, dec_le}

module _ {A : Type 0} where
  -- what holds of each element, the default past the end included
  pub each_set : (P : A → Type 0) (l : List A) (i : ℕ) (b d : A) → P b → ((j : ℕ) → P (get_or l j d)) → (j : ℕ) → P (get_or (set l i b) j d)
  each_set P [] i b d p all j = all j
  each_set P (x ∷ xs) zero b d p all zero = p
  each_set P (x ∷ xs) zero b d p all (suc j) = all (suc j)
  each_set P (x ∷ xs) (suc i) b d p all zero = all zero
  each_set P (x ∷ xs) (suc i) b d p all (suc j) = each_set P xs i b d p (λ j. all (suc j)) j

  pub each_push : (P : A → Type 0) (l : List A) (b d : A) → P b → ((j : ℕ) → P (get_or l j d)) → (j : ℕ) → P (get_or (l ++ b ∷ []) j d)
  each_push P [] b d p all zero = p
  each_push P [] b d p all (suc j) = all (suc j)
  each_push P (x ∷ xs) b d p all zero = all zero
  each_push P (x ∷ xs) b d p all (suc j) = each_push P xs b d p (λ j. all (suc j)) j

  pub each_set_at : (P : ℕ → A → Type 0) (l : List A) (i : ℕ) (b d : A) → i < length l → P i b → ((j : ℕ) → j ≢ i → P j (get_or l j d)) → (j : ℕ) → P j (get_or (set l i b) j d)
  each_set_at P l i b d lt p all j = dite (ℕ_discrete j i)
      (λ e. subst (λ j. P j (get_or (set l i b) j d)) (sym e) (subst (P i) (sym (get_or-set_same l i b d lt)) p))
      (λ ne. subst (P j) (sym (get_or-set_other l i j b d ne)) (all j ne))

  pub past : (l : List A) (i : ℕ) (d : A) → length l ≤ i → get_or l i d ≡ d
  past [] i d le = refl
  past (x ∷ xs) zero d le = absurd (omega arith)
  past (x ∷ xs) (suc i) d le = past xs i d (omega arith)

  -- an element is within the sum, the default past the end included
  pub within_sum : (f : A → ℕ) (l : List A) (i : ℕ) (d : A) → f d ≡ 0 → f (get_or l i d) ≤ sum_by f l
  within_sum f l i d none = dite (dec_le (length l) i)
      (λ le. let e : f (get_or l i d) ≡ f d = ap f (past l i d le) in omega arith)
      (λ no. get_or-le-sum_by f l i d (omega arith))

  -- two elements are within the sum
  pub two_within : (f : A → ℕ) (l : List A) (i j : ℕ) (d : A) → i ≢ j → f d ≡ 0 → f (get_or l i d) + f (get_or l j d) ≤ sum_by f l
  two_within f [] i j d ne none = omega arith
  two_within f (x ∷ xs) zero zero d ne none = absurd (ne refl)
  two_within f (x ∷ xs) zero (suc j) d ne none = let u = sum_by-cons f x xs in let r = within_sum f xs j d none in omega arith
  two_within f (x ∷ xs) (suc i) zero d ne none = let u = sum_by-cons f x xs in let r = within_sum f xs i d none in omega arith
  two_within f (x ∷ xs) (suc i) (suc j) d ne none = let u = sum_by-cons f x xs in let r = two_within f xs i j d (λ q. ne (ap suc q)) none in omega arith

  -- a sum that is not 0 has a term that is not 0
  pub some_term : (f : A → ℕ) (l : List A) (d : A) → 0 < sum_by f l → (i : ℕ) × (i < length l) × (0 < f (get_or l i d))
  some_term f [] d lt = absurd (omega arith)
  some_term f (x ∷ xs) d lt = let c = sum_by-cons f x xs in dite (ℕ_discrete (f x) 0)
      (λ e. let r = some_term f xs d (omega arith) in let r1 = r.1 in (suc r.0, omega arith, r.2))
      (λ ne. (0, omega arith, omega arith))

  -- equal terms have equal sums
  pub same_terms : (f g : A → ℕ) (l : List A) (d : A) → ((i : ℕ) → i < length l → f (get_or l i d) ≡ g (get_or l i d)) → sum_by f l ≡ sum_by g l
  same_terms f g [] d same = refl
  same_terms f g (x ∷ xs) d same = let a = sum_by-cons f x xs in let b = sum_by-cons g x xs in let c = same 0 (omega arith) in let e = same_terms f g xs d (λ i lt. same (suc i) (omega arith)) in omega arith
