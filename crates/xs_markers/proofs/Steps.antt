-- One step of a list that grows by pieces.
use Rattle.std.proofs.Common.{◌≡◌, ℕ, ◌+◌, ◌<◌, List, [], ◌∷◌, ◌++◌, length, take, get_or, ap, ◌∙◌, arith}
use Rattle.std.specs.List.{flat_map}
use Rattle.std.proofs.lemmas.List.{take_more, append-nil}
use Rattle.std.proofs.lemmas.Grind.{flat_map-append}
use Rattle.xs_lists.specs.Spelling.{upto}
use Rattle.xs_lists.proofs.Each.{range-more}

-- the pieces of a list with one more at its end
pub flat_more : {X A : Type 0} (f : X → List A) (xs : List X) (x : X) → flat_map f (xs ++ x ∷ []) ≡ flat_map f xs ++ f x
flat_more f xs x = flat_map-append f xs (x ∷ []) ∙ ap (λ l. flat_map f xs ++ l) (append-nil (f x))

pub flat_take : {X A : Type 0} (f : X → List A) (xs : List X) (i : ℕ) (d : X) → i < length xs → flat_map f (take (i + 1) xs) ≡ flat_map f (take i xs) ++ f (get_or xs i d)
flat_take f xs i d inside = ap (flat_map f) (take_more xs i d inside) ∙ flat_more f (take i xs) (get_or xs i d)

pub flat_upto : {A : Type 0} (f : ℕ → List A) (i : ℕ) → flat_map f (upto (i + 1)) ≡ flat_map f (upto i) ++ f i
flat_upto f i =
    let more : upto (i + 1) ≡ upto i ++ (0 + i) ∷ [] = range-more 0 i in
    let same : 0 + i ≡ i = omega arith in
    ap (flat_map f) (more ∙ ap (λ k. upto i ++ k ∷ []) same) ∙ flat_more f (upto i) i
