-- The first of refusals in an order.
use Rattle.std.proofs.Common.{◌≡◌, Bool, true, false, List, [], ◌∷◌, ◌++◌, refl, ap, sym, ◌∙◌}
use Rattle.std.specs.Prelude.{if◌then◌else◌, is_some, Option, Some, None}
use Rattle.std.specs.Option.{option_or}
use Rattle.xs_lists.specs.First.{first_of}

chosen : {A : Type 0} (test : Bool) (answer : A) (x y rest : Option A) → x ≡ option_or y rest
    → (if test then Some answer else x) ≡ option_or (if test then Some answer else y) rest
chosen true answer x y rest e = refl
chosen false answer x y rest e = e

pub first_of-append : {A : Type 0} (rows others : List (Bool × A)) → first_of (rows ++ others) ≡ option_or (first_of rows) (first_of others)
first_of-append [] others = refl
first_of-append (row ∷ rows) others = chosen row.0 row.1 (first_of (rows ++ others)) (first_of rows) (first_of others) (first_of-append rows others)

-- the first of six lists of refusals
pub first_of_six : {A : Type 0} (a b c d e f : List (Bool × A))
    → first_of (a ++ b ++ c ++ d ++ e ++ f) ≡ option_or (option_or (first_of a) (first_of b)) (option_or (option_or (option_or (first_of c) (first_of d)) (first_of e)) (first_of f))
first_of_six a b c d e f =
    first_of-append (a ++ b ++ c ++ d ++ e) f
    ∙ ap (λ x. option_or x (first_of f))
    (first_of-append (a ++ b ++ c ++ d) e
    ∙ ap (λ x. option_or x (first_of e))
    (first_of-append (a ++ b ++ c) d ∙ ap (λ x. option_or x (first_of d)) (first_of-append (a ++ b) c ∙ ap (λ x. option_or x (first_of c)) (first_of-append a b))))
    ∙ grouped (option_or (first_of a) (first_of b)) (first_of c) (first_of d) (first_of e) (first_of f)
  where
    grouped : {A : Type 0} (x p q r s : Option A) → option_or (option_or (option_or (option_or x p) q) r) s ≡ option_or x (option_or (option_or (option_or p q) r) s)
    grouped None p q r s = refl
    grouped (Some x) p q r s = refl

-- an answer of the first two
pub found_first : {A : Type 0} (a b c d e f : List (Bool × A)) (x : Option A) → x ≡ option_or (first_of a) (first_of b) → is_some x ≡ true → x ≡ first_of (a ++ b ++ c ++ d ++ e ++ f)
found_first a b c d e f x first some =
    let rest = option_or (option_or (option_or (first_of c) (first_of d)) (first_of e)) (first_of f) in
    sym (kept x rest some) ∙ ap (λ y. option_or y rest) first ∙ sym (first_of_six a b c d e f)
  where
    kept : {A : Type 0} (x y : Option A) → is_some x ≡ true → option_or x y ≡ x
    kept None y p = absurd (cc p)
    kept (Some x) y p = refl

none_of : {A : Type 0} (x : Option A) → is_some x ≡ false → x ≡ None
none_of None p = refl
none_of (Some x) p = absurd (cc p)

-- no answer of the first two
pub found_later : {A : Type 0} (a b c d e f : List (Bool × A)) (x y : Option A) → x ≡ option_or (first_of a) (first_of b) → is_some x ≡ false
    → y ≡ option_or (option_or (option_or (first_of c) (first_of d)) (first_of e)) (first_of f) → y ≡ first_of (a ++ b ++ c ++ d ++ e ++ f)
found_later a b c d e f x y first none later =
    let rest = option_or (option_or (option_or (first_of c) (first_of d)) (first_of e)) (first_of f) in
    later ∙ sym (ap (λ z. option_or z rest) (sym first ∙ none_of x none)) ∙ sym (first_of_six a b c d e f)
