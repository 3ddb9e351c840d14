-- The pieces of a codestream, one after the other.
use Rattle.std.proofs.Common.{◌≡◌, ℕ, ◌+◌, ◌<◌, List, [], ◌∷◌, ◌++◌, length, take, get_or, sym, ap, ◌∙◌, append_assoc}
use Rattle.std.specs.List.{concat}
use Rattle.std.proofs.lemmas.List.{take_more, append-nil}
use Rattle.std.proofs.lemmas.List.Folds.{concat-append}

-- one slice more
pub joined_more : (header : List ℕ) (slices : List (List ℕ)) (i : ℕ) (old slice new : List ℕ) → i < length slices → slice ≡ get_or slices i slice
    → old ≡ header ++ concat (take i slices) → new ≡ old ++ slice → new ≡ header ++ concat (take (i + 1) slices)
joined_more header slices i old slice new inside item before after =
    let more : concat (take (i + 1) slices) ≡ concat (take i slices) ++ slice =
    ap concat (take_more slices i slice inside) ∙ concat-append (take i slices) (get_or slices i slice ∷ []) ∙ ap (λ l. concat (take i slices) ++ l) (append-nil (get_or slices i slice) ∙ sym item) in
    after ∙ ap (λ l. l ++ slice) before ∙ append_assoc header (concat (take i slices)) slice ∙ ap (λ l. header ++ l) (sym more)
