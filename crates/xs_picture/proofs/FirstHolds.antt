-- What holds of each of some faults holds of the first.
use Rattle.std.proofs.Common.{◌≡◌, List, [], ◌∷◌, refl, subst}
use Rattle.std.specs.Prelude.{Bool, true, false, Option, None, Some}
use Rattle.std.specs.Option.{option_map}
use Rattle.xs_lists.specs.First.{when, first_some}

pub first_by : {A : Type 0} (P : A → Type 0) (x : Option A) (xs : List (Option A)) (a : A) → first_some (x ∷ xs) ≡ Some a → ((b : A) → x ≡ Some b → P b) → (first_some xs ≡ Some a → P a) → P a
first_by P None xs a e one rest = rest e
first_by P (Some x) xs a e one rest = one a e

pub last_by : {A : Type 0} (P : A → Type 0) (x : Option A) (a : A) → first_some (x ∷ []) ≡ Some a → ((b : A) → x ≡ Some b → P b) → P a
last_by P None a e one = absurd (cc e)
last_by P (Some x) a e one = one a e

pub two_hold : {A : Type 0} (P : A → Type 0) (x y : Option A) (a : A) → ((b : A) → x ≡ Some b → P b) → ((b : A) → y ≡ Some b → P b) → first_some (x ∷ y ∷ []) ≡ Some a → P a
two_hold P x y a p q e = first_by P x (y ∷ []) a e p (λ e. last_by P y a e q)

pub three_hold : {A : Type 0} (P : A → Type 0) (x y z : Option A) (a : A) → ((b : A) → x ≡ Some b → P b) → ((b : A) → y ≡ Some b → P b) → ((b : A) → z ≡ Some b → P b) → first_some (x ∷ y ∷ z ∷ []) ≡ Some a → P a
three_hold P x y z a p q r e = first_by P x (y ∷ z ∷ []) a e p (two_hold P y z a q r)

pub when_holds : {A : Type 0} (P : A → Type 0) (test : Bool) (x : A) → P x → (a : A) → when test x ≡ Some a → P a
when_holds P true x p a e = let same : x ≡ a = cc e in subst P same p
when_holds P false x p a e = absurd (cc e)

pub map_holds : {A B : Type 0} (P : A → Type 0) (Q : B → Type 0) (f : A → B) (x : Option A) → ((a : A) → P a → Q (f a)) → ((a : A) → x ≡ Some a → P a) → (b : B) → option_map f x ≡ Some b → Q b
map_holds P Q f None step held b e = absurd (cc e)
map_holds P Q f (Some x) step held b e = let same : f x ≡ b = cc e in subst Q same (step x (held x refl))
