-- A part of a list that was changed in its place, and the ranges of a packet's bands.
use Rattle.std.proofs.Common.{◌≡◌, ℕ, zero, suc, ◌+◌, ◌-◌, ◌<◌, ◌≤◌, ◌⊎◌, inl, inr, List, ◌++◌, map, take, drop, length, get_or, set, refl, sym, ap, subst, ◌∙◌, arith, length-append, length-take-le, length-drop}
use Rattle.std.specs.List.{range_with_len}
use Rattle.std.proofs.lemmas.Bool.{cases_lt}
use Rattle.std.proofs.lemmas.List.{drop_at, get_or-set_other, get_or-set_same, get_or_append_left, get_or-append_right, get_or-drop, get_or-take}
use Rattle.std.proofs.lemmas.List.FromFn.{get_or-map-range_with_len, length-map-range_with_len, length-range_with_len}
use Rattle.std.proofs.Math.Seq.{take-append_seam}
use borrow.Rule.Slice.PartMut.{mid_of, post_of, put_mid, put_same}
use Rattle.xs_precinct.specs.Bands.{EachOf}
use Rattle.xs_precinct.proofs.Pairs.{pairs_at, pairs_from}

front_size : {A : Type 0} (a : ℕ) (xs : List A) → a ≤ length xs → length (take a xs) ≡ a
front_size a xs inside = length-take-le a xs inside

pub window_size : {A : Type 0} (a n : ℕ) (xs : List A) → a + n ≤ length xs → length (take n (drop a xs)) ≡ n
window_size a n xs inside = length-take-le n (drop a xs) (omega (arith, inside, length-drop a xs))

-- what is left behind a part
pub put_window : {A : Type 0} (a n : ℕ) (xs ys : List A) → a + n ≤ length xs → length ys ≡ n → take n (drop a (put_mid a n xs ys)) ≡ ys
put_window a n xs ys inside size =
    ap (take n) (drop_at (take a xs) (ys ++ post_of a n xs) a (front_size a xs (omega (arith, inside)))) ∙ ap (λ k. take k (ys ++ post_of a n xs)) (sym size) ∙ take-append_seam ys (post_of a n xs)

pub put_length : {A : Type 0} (a n : ℕ) (xs ys : List A) → a + n ≤ length xs → length ys ≡ n → length (put_mid a n xs ys) ≡ length xs
put_length a n xs ys inside size =
    let new = length-append (take a xs) (ys ++ post_of a n xs) in
    let tail = length-append ys (post_of a n xs) in
    let old = length-append (take a xs) (mid_of a n xs ++ post_of a n xs) in
    let rest = length-append (mid_of a n xs) (post_of a n xs) in
    omega (arith, new, tail, old, rest, size, window_size a n xs inside, ap length (put_same a n xs))

pub put_outside : {A : Type 0} (a n i : ℕ) (xs ys : List A) (d : A) → a + n ≤ length xs → length ys ≡ n → (i < a) ⊎ (a + n ≤ i) → get_or (put_mid a n xs ys) i d ≡ get_or xs i d
put_outside a n i xs ys d inside size (inl before) =
    let less : i < length (take a xs) = omega (arith, before, front_size a xs (omega (arith, inside))) in
    get_or_append_left (take a xs) (ys ++ post_of a n xs) d i less ∙ get_or-take a xs i d before
put_outside a n i xs ys d inside size (inr after) =
    let front = front_size a xs (omega (arith, inside)) in
    get_or-append_right (take a xs) (ys ++ post_of a n xs) a i d front (omega (arith, after)) ∙ get_or-append_right ys (post_of a n xs) n (i - a) d size (omega (arith, after))
    ∙ sym (get_or-append_right (mid_of a n xs) (post_of a n xs) n (i - a) d (window_size a n xs inside) (omega (arith, after))) ∙ sym (get_or-append_right (take a xs) (mid_of a n xs ++ post_of a n xs) a i d front (omega (arith, after)))
    ∙ ap (λ l. get_or l i d) (put_same a n xs)

pub window_at : {A : Type 0} (a n k : ℕ) (xs : List A) (d : A) → k < n → get_or (take n (drop a xs)) k d ≡ get_or xs (a + k) d
window_at a n k xs d inside = get_or-take n (drop a xs) k d inside ∙ get_or-drop a xs k d

-- a window and a range

pub pairs_window : {A B : Type 0} (R : A → B → Type 0) (xs : List A) (g : ℕ → B) (a n : ℕ) (d : A) (e : B) → a + n ≤ length xs → ((i : ℕ) → a ≤ i → i < a + n → R (get_or xs i d) (g i)) → EachOf R (take n (drop a xs)) (map g (range_with_len a n))
pairs_window {A} {B} R xs g a n d e inside each = pairs_from R (take n (drop a xs)) (map g (range_with_len a n)) d e (window_size a n xs inside ∙ sym (length-map-range_with_len g a n)) (λ k below. one k (omega (arith, below, window_size a n xs inside)))
  where
    one : (k : ℕ) → k < n → R (get_or (take n (drop a xs)) k d) (get_or (map g (range_with_len a n)) k e)
    one k less = subst (λ x. R x (get_or (map g (range_with_len a n)) k e)) (sym (window_at a n k xs d less)) (subst (R (get_or xs (a + k) d)) (sym (get_or-map-range_with_len g a n k (a + k) e less refl)) (each (a + k) (omega arith) (omega (arith, less))))

pub window_pairs : {A B : Type 0} (R : A → B → Type 0) (xs : List A) (g : ℕ → B) (a n : ℕ) (d : A) (e : B) → a + n ≤ length xs → EachOf R (take n (drop a xs)) (map g (range_with_len a n)) → (i : ℕ) → a ≤ i → i < a + n → R (get_or xs i d) (g i)
window_pairs R xs g a n d e inside each i low high =
    let less : i - a < n = omega (arith, low, high) in
    let back : a + (i - a) ≡ i = omega (arith, low) in
    let p = pairs_at R (take n (drop a xs)) (map g (range_with_len a n)) d e (i - a) (omega (arith, less, window_size a n xs inside)) each in
    subst (λ x. R x (g i)) (window_at a n (i - a) xs d less ∙ ap (λ k. get_or xs k d) back) (subst (R (get_or (take n (drop a xs)) (i - a) d)) (get_or-map-range_with_len g a n (i - a) i e less back) p)

pub window_both : {A : Type 0} (R : A → A → Type 0) (xs ys : List A) (a n : ℕ) (d : A) → a + n ≤ length xs → EachOf R (take n (drop a xs)) (take n (drop a ys)) → (i : ℕ) → a ≤ i → i < a + n → R (get_or xs i d) (get_or ys i d)
window_both R xs ys a n d inside each i low high =
    let less : i - a < n = omega (arith, low, high) in
    let back : a + (i - a) ≡ i = omega (arith, low) in
    let p = pairs_at R (take n (drop a xs)) (take n (drop a ys)) d d (i - a) (omega (arith, less, window_size a n xs inside)) each in
    subst (λ x. R x (get_or ys i d)) (window_at a n (i - a) xs d less ∙ ap (λ k. get_or xs k d) back) (subst (R (get_or (take n (drop a xs)) (i - a) d)) (window_at a n (i - a) ys d less ∙ ap (λ k. get_or ys k d) back) p)

-- ranges that are the same
pub range_same : (a b n m : ℕ) → 1 ≤ n → range_with_len a n ≡ range_with_len b m → (a ≡ b) × (n ≡ m)
range_same a b zero m some e = absurd (omega (arith, some))
range_same a b (suc n) zero some e = absurd (cc e)
range_same a b (suc n) (suc m) some e = let size : suc n ≡ suc m = sym (length-range_with_len a (suc n)) ∙ ap length e ∙ length-range_with_len b (suc m) in let here : a ≡ b = cc e in (here, size)

-- what holds of the first elements, and of one that was written after them
pub index_more : {A : Type 0} (P : ℕ → A → Type 0) (xs : List A) (k : ℕ) (x d : A) → k < length xs → ((i : ℕ) → i < k → P i (get_or xs i d)) → P k x → (i : ℕ) → i < k + 1 → P i (get_or (set xs k x) i d)
index_more P xs k x d inside before here i below = elim (cases_lt i k) [
  | inl less ↦ subst (P i) (sym (get_or-set_other xs k i x d (λ e. absurd (omega (arith, less, e))))) (before i less)
  | inr past ↦
      let same : k ≡ i = omega (arith, below, past) in
      subst (λ j. P j (get_or (set xs k x) j d)) same (subst (P k) (sym (get_or-set_same xs k x d inside)) here)
]
