-- Lists of which each element stands so to the one at its place, and lists of which the first elements were changed.
use Rattle.std.proofs.Common.{◌≡◌, ℕ, zero, suc, ◌+◌, ◌<◌, List, [], ◌∷◌, ◌++◌, length, take, drop, get_or, set, sym, ap, subst, ◌∙◌, arith}
use Rattle.std.proofs.lemmas.List.{drop-set-lt, get_or-drop, get_or_default, take_more, take_more_set}
use Rattle.std.specs.List.{AllByRecursion}
use Rattle.xs_lists.proofs.Walk.{all-append}
use Rattle.xs_spelling.proofs.Redata.{drop-drop}
use Rattle.xs_precinct.specs.Bands.{EachOf}

pub pairs_push : {A B : Type 0} (R : A → B → Type 0) (xs : List A) (ys : List B) (x : A) (y : B) → EachOf R xs ys → R x y → EachOf R (xs ++ x ∷ []) (ys ++ y ∷ [])
pairs_push R [] [] x y p q = (q, tt)
pairs_push R [] (z ∷ ys) x y p q = absurd p
pairs_push R (w ∷ xs) [] x y p q = absurd p
pairs_push R (w ∷ xs) (z ∷ ys) x y p q = (p.0, pairs_push R xs ys x y p.1 q)

pub pairs_length : {A B : Type 0} (R : A → B → Type 0) (xs : List A) (ys : List B) → EachOf R xs ys → length xs ≡ length ys
pairs_length R [] [] p = omega arith
pairs_length R [] (y ∷ ys) p = absurd p
pairs_length R (x ∷ xs) [] p = absurd p
pairs_length R (x ∷ xs) (y ∷ ys) p = ap suc (pairs_length R xs ys p.1)

pub pairs_at : {A B : Type 0} (R : A → B → Type 0) (xs : List A) (ys : List B) (d : A) (e : B) (k : ℕ) → k < length xs → EachOf R xs ys → R (get_or xs k d) (get_or ys k e)
pairs_at R [] ys d e k inside p = absurd (omega (arith, inside))
pairs_at R (x ∷ xs) [] d e k inside p = absurd p
pairs_at R (x ∷ xs) (y ∷ ys) d e zero inside p = p.0
pairs_at R (x ∷ xs) (y ∷ ys) d e (suc k) inside p = pairs_at R xs ys d e k (omega (arith, inside)) p.1

pub pairs_from : {A B : Type 0} (R : A → B → Type 0) (xs : List A) (ys : List B) (d : A) (e : B) → length xs ≡ length ys → ((k : ℕ) → k < length xs → R (get_or xs k d) (get_or ys k e)) → EachOf R xs ys
pairs_from R [] [] d e size each = tt
pairs_from R [] (y ∷ ys) d e size each = absurd (omega (arith, size))
pairs_from R (x ∷ xs) [] d e size each = absurd (omega (arith, size))
pairs_from R (x ∷ xs) (y ∷ ys) d e size each = (each zero (omega arith), pairs_from R xs ys d e (omega (arith, size)) (λ k inside. each (suc k) (omega (arith, inside))))

pub pairs_join : {A B C : Type 0} (R : A → B → Type 0) (S : B → C → Type 0) (T : A → C → Type 0) → ((x : A) (y : B) (z : C) → R x y → S y z → T x z) → (xs : List A) (ys : List B) (zs : List C) → EachOf R xs ys → EachOf S ys zs
    → EachOf T xs zs
pairs_join R S T one [] [] [] p q = tt
pairs_join R S T one [] [] (z ∷ zs) p q = absurd q
pairs_join R S T one [] (y ∷ ys) zs p q = absurd p
pairs_join R S T one (x ∷ xs) [] zs p q = absurd p
pairs_join R S T one (x ∷ xs) (y ∷ ys) [] p q = absurd q
pairs_join R S T one (x ∷ xs) (y ∷ ys) (z ∷ zs) p q = (one x y z p.0 q.0, pairs_join R S T one xs ys zs p.1 q.1)

-- Lists whose first k elements were changed

pub later_here : {A : Type 0} (init now : List A) (k : ℕ) (d : A) → drop k now ≡ drop k init → get_or now k d ≡ get_or init k d
later_here init now k d e =
    let z : k + 0 ≡ k = omega arith in
    ap (λ n. get_or now n d) (sym z) ∙ sym (get_or-drop k now 0 d) ∙ ap (λ l. get_or l 0 d) e ∙ get_or-drop k init 0 d ∙ ap (λ n. get_or init n d) z

pub later_more : {A : Type 0} (init now : List A) (k : ℕ) (new : A) → drop k now ≡ drop k init → drop (k + 1) (set now k new) ≡ drop (k + 1) init
later_more init now k new e = drop-set-lt (k + 1) now k new (omega arith) ∙ drop-drop k 1 now ∙ ap (drop 1) e ∙ sym (drop-drop k 1 init)

pub pairs_more : {A : Type 0} (R : A → A → Type 0) (init now : List A) (k : ℕ) (d new : A) → k < length init → k < length now → EachOf R (take k init) (take k now) → R (get_or init k d) new
    → EachOf R (take (k + 1) init) (take (k + 1) (set now k new))
pairs_more R init now k d new here there p q =
    subst (λ l. EachOf R l (take (k + 1) (set now k new))) (sym (take_more init k d here)) (subst (EachOf R (take k init ++ get_or init k d ∷ [])) (sym (take_more_set now k new there)) (pairs_push R (take k init) (take k now) (get_or init k d) new p q))

pub pairs_done : {A B : Type 0} (R : A → B → Type 0) (now : List A) (done : List B) (k : ℕ) (new : A) (y : B) → k < length now → EachOf R (take k now) done → R new y → EachOf R (take (k + 1) (set now k new)) (done ++ y ∷ [])
pairs_done R now done k new y there p q = subst (λ l. EachOf R l (done ++ y ∷ [])) (sym (take_more_set now k new there)) (pairs_push R (take k now) done new y p q)

pub all_done : {A : Type 0} (P : A → Type 0) (now : List A) (k : ℕ) (new : A) → k < length now → AllByRecursion P (take k now) → P new → AllByRecursion P (take (k + 1) (set now k new))
all_done P now k new there p q = subst (AllByRecursion P) (sym (take_more_set now k new there)) (all-append P (take k now) (new ∷ []) p (q, tt))

-- the element at a place, as code reads it, is that of the list before
pub element : {A : Type 0} (init now : List A) (k : ℕ) (x d : A) → k < length now → drop k now ≡ drop k init → get_or now k x ≡ get_or init k d
element init now k x d there later = get_or_default now k x d there ∙ later_here init now k d later

pub all_at : {A : Type 0} (P : A → Type 0) (xs : List A) (k : ℕ) (d : A) → k < length xs → AllByRecursion P xs → P (get_or xs k d)
all_at P [] k d inside all = absurd (omega (arith, inside))
all_at P (x ∷ xs) zero d inside all = all.0
all_at P (x ∷ xs) (suc k) d inside all = all_at P xs k d (omega (arith, inside)) all.1
