-- Entries of a list of which one was set.
use Rattle.std.proofs.Common.{◌≡◌, ℕ, ◌+◌, ◌<◌, List, [], ◌∷◌, ◌++◌, length, get_or, refl, sym, ap, subst, ◌∙◌, arith, inl, inr, length-append}
use Rattle.std.proofs.Math.ListN.{set}
use Rattle.std.proofs.lemmas.List.{get_or-set_other, get_or_append_left}
use Rattle.std.proofs.Math.Seq.{get_or-append_seam}
use Rattle.std.proofs.lemmas.Bool.{cases_eq}
use Rattle.std.proofs.lemmas.Grind.{get_or-set_at}

pub done_more : (P : ℕ → ℕ → Type 0) (row : List ℕ) (k v : ℕ) → k < length row → ((j : ℕ) → j < k → P j (get_or row j 0)) → P k v → (j : ℕ) → j < k + 1 → P j (get_or (set row k v) j 0)
done_more P row k v inside old new j below =
    elim (cases_eq j k) [
      | inl same ↦ subst (λ i. P i (get_or (set row k v) i 0)) (sym same) (subst (P k) (sym (get_or-set_at row k k v 0 refl inside)) new)
      | inr other ↦ subst (P j) (sym (get_or-set_other row k j v 0 other)) (old j (omega (arith, other, below)))
    ]

-- the items of a list behind which one was pushed
pub each_pushed : {X : Type 0} (P : ℕ → X → Type 0) (xs : List X) (x : X) → ((k : ℕ) (d : X) → k < length xs → P k (get_or xs k d)) → P (length xs) x → (k : ℕ) (d : X) → k < length xs + 1 → P k (get_or (xs ++ x ∷ []) k d)
each_pushed P xs x old new k d below = elim (cases_eq k (length xs)) [
  | inl here ↦ subst (λ i. P i (get_or (xs ++ x ∷ []) i d)) (sym here) (subst (P (length xs)) (sym (get_or-append_seam xs x [] d)) new)
  | inr other ↦ subst (P k) (sym (get_or_append_left xs (x ∷ []) d k (omega (arith, other, below)))) (old k d (omega (arith, other, below)))
]

pub pushed_more : {X : Type 0} (P : ℕ → X → Type 0) (xs new : List X) (x : X) → ((k : ℕ) (d : X) → k < length xs → P k (get_or xs k d)) → P (length xs) x → new ≡ xs ++ x ∷ []
    → (length new ≡ length xs + 1) × ((k : ℕ) (d : X) → k < length new → P k (get_or new k d))
pushed_more P xs new x old own pushed =
    let size : length new ≡ length xs + 1 = ap length pushed ∙ length-append xs (x ∷ []) in
    (size, λ k d below. subst (λ l. P k (get_or l k d)) (sym pushed) (each_pushed P xs x old own k d (omega (arith, below, size))))
