-- Edits of lists.
use Rattle.std.proofs.Common.{◌≡◌, ◌≢◌, ℕ, zero, suc, ◌<◌, List, [], ◌∷◌, ◌++◌, length, map, set, replicate, get_or, Bool, true, false, refl, sym, ap, ◌∙◌, arith, append-nil, Vec, Global}
use Rattle.std.specs.Prelude.{if◌then◌else◌}
use Rattle.std.specs.List.{zip}
use Rattle.std.proofs.lemmas.List.{get_or-map, length-map, map-set, set-get_or}
use Rattle.xs_capture.specs.Offer.{Offer}
use Rattle.xs_capture.specs.Lists.{lists_in}

-- two functions that agree on a list
pub map_same : {A B : Type 0} (f g : A → B) (xs : List A) (d : A) → ((j : ℕ) → j < length xs → g (get_or xs j d) ≡ f (get_or xs j d)) → map g xs ≡ map f xs
map_same f g [] d same = refl
map_same f g (x ∷ xs) d same =
    let some : 0 < length (x ∷ xs) = omega arith in
    let head : g x ≡ f x = same 0 some in
    let tail : map g xs ≡ map f xs = map_same f g xs d (λ j inside. let next : suc j < length (x ∷ xs) = omega (arith, inside) in same (suc j) next) in
    cc (head, tail)

-- two functions that agree but at one place
pub map_but : {A B : Type 0} (f g : A → B) (xs : List A) (k : ℕ) (d : A) → k < length xs → ((j : ℕ) → j < length xs → j ≢ k → g (get_or xs j d) ≡ f (get_or xs j d))
    → map g xs ≡ set (map f xs) k (g (get_or xs k d))
map_but f g [] k d inside others = absurd (omega (arith, inside))
map_but f g (x ∷ xs) zero d inside others =
    ap (λ l. g x ∷ l) (map_same f g xs d (λ j below. let next : suc j < length (x ∷ xs) = omega (arith, below) in others (suc j) next (λ e. absurd (omega (arith, e)))))
map_but f g (x ∷ xs) (suc k) d inside others =
    let some : 0 < length (x ∷ xs) = omega arith in
    let head : g x ≡ f x = others 0 some (λ e. absurd (omega (arith, e))) in
    let less : k < length xs = omega (arith, inside) in
    let tail : map g xs ≡ set (map f xs) k (g (get_or xs k d)) =
    map_but f g xs k d less (λ j below apart. let next : suc j < length (x ∷ xs) = omega (arith, below) in others (suc j) next (λ e. apart (omega (arith, e)))) in
    cc (head, tail)

-- a function that gives one value
pub map_one : {A B : Type 0} (y : B) (xs : List A) → map (λ x. y) xs ≡ replicate (length xs) y
map_one y [] = refl
map_one y (x ∷ xs) = ap (λ l. y ∷ l) (map_one y xs)

pub set_if : {A : Type 0} (b : Bool) (xs : List A) (k : ℕ) (x d : A) → set xs k (if b then x else get_or xs k d) ≡ (if b then set xs k x else xs)
set_if true xs k x d = refl
set_if false xs k x d = set-get_or xs k d

-- an element that is appended where a test holds
pub chosen : {A : Type 0} (b : Bool) (list : List A) (x : A) → b ≡ true → list ++ (if b then x ∷ [] else []) ≡ list ++ x ∷ []
chosen true list x so = refl
chosen false list x so = absurd (cc so)

pub passed : {A : Type 0} (b : Bool) (list : List A) (x : A) → (b ≡ true → ⊥) → list ++ (if b then x ∷ [] else []) ≡ list
passed true list x not_so = absurd (not_so refl)
passed false list x not_so = append-nil list

-- pairs of two lists of one length, and one pair more
pub zip_more : {A B : Type 0} (xs : List A) (ys : List B) (x : A) (y : B) → length xs ≡ length ys → zip (xs ++ x ∷ []) (ys ++ y ∷ []) ≡ zip xs ys ++ (x, y) ∷ []
zip_more [] [] x y same = refl
zip_more [] (b ∷ ys) x y same = absurd (omega (arith, same))
zip_more (a ∷ xs) [] x y same = absurd (omega (arith, same))
zip_more (a ∷ xs) (b ∷ ys) x y same = ap (λ l. (a, b) ∷ l) (zip_more xs ys x y (omega (arith, same)))

-- Vectors of vectors

-- a vector that is lent
pub item_lent : (rows : List (Vec Offer Global)) (now : List (List Offer)) (at : ℕ) (v : Vec Offer Global) → lists_in rows ≡ now → at < length now → v ≡ get_or rows at v → v.items ≡ get_or now at []
item_lent rows now at v seen inside value =
    let count : length (lists_in rows) ≡ length rows = length-map rows (λ (w : Vec Offer Global). w.items) in
    let same : length (lists_in rows) ≡ length now = ap length seen in
    let below : at < length rows = omega (arith, count, same, inside) in
    ap (λ (w : Vec Offer Global). w.items) value ∙ sym (get_or-map (λ (w : Vec Offer Global). w.items) rows at v [] below) ∙ ap (λ l. get_or l at []) seen

-- and comes back
pub item_back : (rows : List (Vec Offer Global)) (now : List (List Offer)) (at : ℕ) (v : Vec Offer Global) → lists_in rows ≡ now → lists_in (set rows at v) ≡ set now at v.items
item_back rows now at v seen = map-set (λ (w : Vec Offer Global). w.items) rows at v ∙ ap (λ l. set l at v.items) seen
