-- One more piece was given or taken.
use Rattle.std.proofs.Common.{ℕ, ◌+◌, ◌-◌, ◌≤◌, ◌≡◌, List, ◌++◌, length, take, drop, Option, Result, Ok, Err, subst, sym, ap, ◌∙◌, arith, length-append}
use Rattle.std.proofs.lemmas.List.{length-take-le, take-append-drop, take_rest, drop-drop}
use Rattle.std.proofs.Math.Seq.{take-add}
use Rattle.std.proofs.KnownBytes.{Appends-trans, Consumes-trans}
use Rattle.std.specs.Io.KnownBytes.{Appends, Consumes}
use Rattle.std.specs.Result.{OnErr}

pub appends_more : (a b c : Option (List ℕ)) (xs : List ℕ) (i n : ℕ) → Appends a b (take i xs) → Appends b c (take n (drop i xs)) → Appends a c (take (i + n) xs)
appends_more a b c xs i n first second =
    subst (Appends a c) (sym (take-add i n xs)) (Appends-trans a b c _ _ first second)

pub length-with_front : (xs ys : List ℕ) (n : ℕ) → n ≤ length ys → length (xs ++ take n ys) ≡ length xs + n
length-with_front xs ys n within = length-append xs (take n ys) ∙ ap (λ k. length xs + k) (length-take-le n ys within)

-- a front of what was left, of at most so many bytes
pub consumes_at_most : (a b c : Option (List ℕ)) (xs ys : List ℕ) (n most : ℕ) → n ≤ length ys → length xs + n ≤ most
    → Consumes a b xs → Consumes b c (take n ys) → (front : List ℕ) × (length front ≤ most) × Consumes a c front
consumes_at_most a b c xs ys n most within small first second =
    let long = length-with_front xs ys n within in
    (xs ++ take n ys, omega (arith, long), Consumes-trans a b c _ _ first second)

-- a front of what was left, of just so many bytes
pub consumes_just : (a b c : Option (List ℕ)) (xs ys : List ℕ) (n total : ℕ) → n ≤ length ys → length xs + n ≡ total
    → Consumes a b xs → Consumes b c (take n ys) → (front : List ℕ) × (length front ≡ total) × Consumes a c front
consumes_just a b c xs ys n total within e first second =
    let long = length-with_front xs ys n within in
    (xs ++ take n ys, omega (arith, long, e), Consumes-trans a b c _ _ first second)

-- a copied front and what comes after it are the bytes that were left
pub took_front : (bytes out : List ℕ) (at n : ℕ) → take n out ≡ take n (take (length bytes - at) (drop at bytes))
    → drop at bytes ≡ take n out ++ drop (at + n) bytes
took_front bytes out at n copied =
    sym (take-append-drop n (drop at bytes)) ∙ ap (λ l. take n l ++ drop n (drop at bytes)) (sym (take_rest bytes at)) ∙ ap (λ l. l ++ drop n (drop at bytes)) (sym copied)
    ∙ ap (λ l. take n out ++ l) (drop-drop n at bytes)

-- what holds in any case holds at an error
pub on_err_always : {T E P : Type 0} (result : Result T E) → P → OnErr result P
on_err_always (Ok value) holds = tt
on_err_always (Err fault) holds = holds
