-- Lists that are read by `get_elem?`, and lists of which one element is written as it was.
use Rattle.std.proofs.Common.{◌≡◌, ℕ, zero, suc, ◌<◌, List, [], ◌∷◌, length, get_or, set, sym, refl, ap, arith}
use mathlib.Core.Option.{some, some-injective, some-ne-none}
use lib.ListN.{get_elem?}

module _ {A : Type 0} where
  pub at_view : (l : List A) (i : ℕ) (a d : A) → get_elem? l i ≡ some a → (i < length l) × (get_or l i d ≡ a)
  at_view [] i a d e = absurd (some-ne-none a (sym e))
  at_view (x ∷ xs) zero a d e = (omega arith, some-injective x a e)
  at_view (x ∷ xs) (suc i) a d e = let r = at_view xs i a d e in let r0 = r.0 in (omega arith, r.1)

  pub set_same : (l : List A) (i : ℕ) (d : A) → set l i (get_or l i d) ≡ l
  set_same [] i d = refl
  set_same (x ∷ xs) zero d = refl
  set_same (x ∷ xs) (suc i) d = ap (λ t. x ∷ t) (set_same xs i d)

  pub set_twice : (l : List A) (i : ℕ) (a b : A) → set (set l i a) i b ≡ set l i b
  set_twice [] i a b = refl
  set_twice (x ∷ xs) zero a b = refl
  set_twice (x ∷ xs) (suc i) a b = ap (λ t. x ∷ t) (set_twice xs i a b)
