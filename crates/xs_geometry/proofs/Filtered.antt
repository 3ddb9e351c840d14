-- A filter that is applied item by item.
use Rattle.std.proofs.Common.{◌≡◌, ℕ, zero, suc, ◌+◌, ◌-◌, ◌<◌, List, [], ◌∷◌, ◌++◌, length, take, drop, get_or, Bool, true, false, cond, sym, ap, ◌∙◌, arith, length-append, refl}
use Rattle.std.specs.List.{filter}
use Rattle.std.proofs.Math.ListN.{get_or-append}
use Rattle.std.proofs.lemmas.List.{get_or-append_right, take-append-drop}
use Rattle.std.proofs.lemmas.List.Elements.{filter-append, filter_more}
use Rattle.std.proofs.lemmas.List.Filters.{length-filter_more}

pub one_more : {A : Type 0} (p : A → Bool) (xs : List A) (i : ℕ) (x d : A) → i < length xs → x ≡ get_or xs i d → p x ≡ true → length (filter p (take (i + 1) xs)) ≡ length (filter p (take i xs)) + 1
one_more p xs i x d inside here passes = length-filter_more p xs i d inside ∙ ap (λ b. length (filter p (take i xs)) + cond b 1 0) (sym (ap p here) ∙ passes)

pub none_more : {A : Type 0} (p : A → Bool) (xs : List A) (i : ℕ) (x d : A) → i < length xs → x ≡ get_or xs i d → p x ≡ false → length (filter p (take (i + 1) xs)) ≡ length (filter p (take i xs))
none_more p xs i x d inside here fails =
    let none : length (filter p (take i xs)) + 0 ≡ length (filter p (take i xs)) = omega arith in
    length-filter_more p xs i d inside ∙ ap (λ b. length (filter p (take i xs)) + cond b 1 0) (sym (ap p here) ∙ fails) ∙ none

-- an item that passes stands at the number of those before it that pass
pub found : {A : Type 0} (p : A → Bool) (xs : List A) (i : ℕ) (x d : A) → i < length xs → x ≡ get_or xs i d → p x ≡ true → x ≡ get_or (filter p xs) (length (filter p (take i xs))) d
found p xs i x d inside here passes =
    let before = filter p (take i xs) in
    let n = length before in
    let front : filter p (take (i + 1) xs) ≡ before ++ x ∷ [] =
    filter_more p xs i d inside ∙ ap (λ y. before ++ cond (p y) (y ∷ []) []) (sym here) ∙ ap (λ b. before ++ cond b (x ∷ []) []) passes in
    let whole : filter p xs ≡ (before ++ x ∷ []) ++ filter p (drop (i + 1) xs) =
    ap (filter p) (sym (take-append-drop (i + 1) xs)) ∙ filter-append p (take (i + 1) xs) (drop (i + 1) xs) ∙ ap (λ l. l ++ filter p (drop (i + 1) xs)) front in
    let none : n - n ≡ 0 = omega arith in
    let last : get_or (before ++ x ∷ []) n d ≡ x = get_or-append_right before (x ∷ []) n n d refl (omega arith) ∙ ap (λ k. get_or (x ∷ []) k d) none in
    let room : n < length (before ++ x ∷ []) = omega (arith, length-append before (x ∷ [])) in
    sym (ap (λ l. get_or l n d) whole ∙ get_or-append (before ++ x ∷ []) (filter p (drop (i + 1) xs)) d n room ∙ last)

-- there are more that pass than before one that does
pub fewer_before : {A : Type 0} (p : A → Bool) (xs : List A) (i : ℕ) (x d : A) → i < length xs → x ≡ get_or xs i d → p x ≡ true → length (filter p (take i xs)) < length (filter p xs)
fewer_before p xs i x d inside here passes =
    let front = filter p (take (i + 1) xs) in
    let rest = filter p (drop (i + 1) xs) in
    let whole : filter p xs ≡ front ++ rest = ap (filter p) (sym (take-append-drop (i + 1) xs)) ∙ filter-append p (take (i + 1) xs) (drop (i + 1) xs) in
    let size : length (filter p xs) ≡ length front + length rest = ap length whole ∙ length-append front rest in
    omega (arith, size, one_more p xs i x d inside here passes)

-- where an item stood before the filter
pub record StoodAt {A : Type 0} (p : A → Bool) (xs : List A) (n : ℕ) (y d : A) : Type 0 where
  pub place : ℕ
  pub inside : place < length xs
  pub here : get_or xs place d ≡ y
  pub passes : p (get_or xs place d) ≡ true
  pub before : n ≡ length (filter p (take place xs))

-- with one more item in front
later : {A : Type 0} (p : A → Bool) (x : A) (xs : List A) (t : Bool) → p x ≡ t → (n m : ℕ) (y d : A) → m ≡ n + cond t 1 0 → StoodAt p xs n y d → StoodAt p (x ∷ xs) m y d
later p x xs t e n m y d more at =
    let before = filter p (take at.place xs) in
    record {
      place = suc at.place;
      inside = omega (arith, at.inside);
      here = at.here;
      passes = at.passes;
      before = more ∙ ap (λ k. k + cond t 1 0) at.before ∙ counted x t before ∙ ap (λ b. length (cond b (x ∷ before) before)) (sym e);
    }
  where
    counted : {A : Type 0} (x : A) (t : Bool) (l : List A) → length l + cond t 1 0 ≡ length (cond t (x ∷ l) l)
    counted x true l = omega arith
    counted x false l = omega arith

with_first : {A : Type 0} (p : A → Bool) (x : A) (xs : List A) (d : A) → ((n : ℕ) → n < length (filter p xs) → StoodAt p xs n (get_or (filter p xs) n d) d) → (t : Bool) → p x ≡ t → (n : ℕ)
    → n < length (cond t (x ∷ filter p xs) (filter p xs)) → StoodAt p (x ∷ xs) n (get_or (cond t (x ∷ filter p xs) (filter p xs)) n d) d
with_first p x xs d rest true e zero inside = record { place = 0; inside = omega arith; here = refl; passes = e; before = refl }
with_first p x xs d rest true e (suc n) inside = later p x xs true e n (suc n) (get_or (filter p xs) n d) d (omega arith) (rest n (omega (arith, inside)))
with_first p x xs d rest false e n inside = later p x xs false e n n (get_or (filter p xs) n d) d (omega arith) (rest n inside)

pub stood : {A : Type 0} (p : A → Bool) (xs : List A) (n : ℕ) (d : A) → n < length (filter p xs) → StoodAt p xs n (get_or (filter p xs) n d) d
stood p [] n d inside = absurd (omega (arith, inside))
stood p (x ∷ xs) n d inside = with_first p x xs d (λ m. stood p xs m d) (p x) refl n inside
