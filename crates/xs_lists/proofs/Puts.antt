-- Items put one after the other over those that were there.
use Rattle.std.proofs.Common.{◌≡◌, ℕ, ◌+◌, ◌<◌, ◌≤◌, List, [], ◌∷◌, ◌++◌, map, length, drop, set, get_or, sym, ap, ◌∙◌, arith, append_assoc, append-nil}
use Rattle.std.proofs.lemmas.List.{set_at, get_or_at, drop_more, drop_all}
use Rattle.std.proofs.lemmas.List.FromFn.{length-map-range_with_len, map-range_with_len_more}
use Rattle.xs_lists.specs.Spelling.{upto}

-- the first k are as f says, the others as they were
abbrev pub put_to : {A : Type 0} → (ℕ → A) → List A → ℕ → List A
put_to f old k = map f (upto k) ++ drop k old

one_more : {A : Type 0} (f : ℕ → A) (old : List A) (k : ℕ) → map f (upto k) ++ f k ∷ drop (k + 1) old ≡ put_to f old (k + 1)
one_more f old k =
    sym (append_assoc (map f (upto k)) (f k ∷ []) (drop (k + 1) old)) ∙ ap (λ l. l ++ drop (k + 1) old) (sym (map-range_with_len_more f 0 k k (omega arith)))

pub put_more : {A : Type 0} (f : ℕ → A) (old into : List A) (k : ℕ) (value : A) → k < length old → into ≡ put_to f old k → value ≡ f k → set into k value ≡ put_to f old (k + 1)
put_more f old into k value inside before here =
    ap (λ l. set l k value) (before ∙ ap (λ l. map f (upto k) ++ l) (drop_more old k value inside))
    ∙ set_at (map f (upto k)) (get_or old k value) (drop (k + 1) old) value k (length-map-range_with_len f 0 k)
    ∙ ap (λ v. map f (upto k) ++ v ∷ drop (k + 1) old) here ∙ one_more f old k

pub put_at : {A : Type 0} (f : ℕ → A) (old into : List A) (k : ℕ) (d : A) → k < length old → into ≡ put_to f old k → get_or into k d ≡ get_or old k d
put_at f old into k d inside before =
    ap (λ l. get_or l k d) (before ∙ ap (λ l. map f (upto k) ++ l) (drop_more old k d inside))
    ∙ get_or_at (map f (upto k)) (get_or old k d) (drop (k + 1) old) d k (length-map-range_with_len f 0 k)

pub put_same : {A : Type 0} (f : ℕ → A) (old into : List A) (k : ℕ) (d : A) → k < length old → into ≡ put_to f old k → get_or old k d ≡ f k → into ≡ put_to f old (k + 1)
put_same f old into k d inside before here =
    before ∙ ap (λ l. map f (upto k) ++ l) (drop_more old k d inside) ∙ ap (λ v. map f (upto k) ++ v ∷ drop (k + 1) old) here ∙ one_more f old k

pub put_end : {A : Type 0} (f : ℕ → A) (old into : List A) (k n : ℕ) → length old ≡ n → k ≡ n → into ≡ put_to f old k → into ≡ map f (upto n)
put_end f old into k n size all before =
    before ∙ ap (λ j. put_to f old j) all ∙ ap (λ l. map f (upto n) ++ l) (drop_all n old (omega (arith, size))) ∙ append-nil (map f (upto n))
