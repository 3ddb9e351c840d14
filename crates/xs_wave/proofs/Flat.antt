-- Rows that stand one after the other in one list.
use Rattle.std.proofs.Common.{◌≡◌, ◌<◌, ◌≤◌, ◌+◌, ◌-◌, ◌*◌, ℕ, zero, suc, ℤ, List, [], ◌∷◌, ◌++◌, length, take, drop, get_or, refl, sym, ap, ◌∙◌, arith, replicate, pos, suc-mul}
use Rattle.std.proofs.lemmas.List.{length-take, length-drop, drop-drop, take_at, drop_at, length-replicate, replicate-append-replicate}
use Rattle.std.proofs.lemmas.Nat.{mul-le}
use Rattle.xs_wave.specs.Rows.{rows_of_entries}

pub times_next : (n width : ℕ) → suc n * width ≡ width + n * width
times_next n width = omega (arith, suc-mul n width)

pub times_less : (m n width : ℕ) → m < n → m * width + width ≤ n * width
times_less m n width less = omega (arith, suc-mul m width, mul-le (suc m) width n width less (omega arith))

pub length_rows : (width height : ℕ) (xs : List ℤ) → length (rows_of_entries width height xs) ≡ height
unfolding rows_of_entries
length_rows width zero xs = refl
length_rows width (suc height) xs = ap (λ n. suc n) (length_rows width height (drop width xs))

pub row_at : (width height row : ℕ) (xs : List ℤ) → row < height → get_or (rows_of_entries width height xs) row [] ≡ take width (drop (row * width) xs)
unfolding rows_of_entries
row_at width zero row xs inside = absurd (omega (arith, inside))
row_at width (suc height) zero xs inside = let none : 0 * width ≡ 0 = omega arith in ap (λ n. take width (drop n xs)) (sym none)
row_at width (suc height) (suc row) xs inside =
    row_at width height row (drop width xs) (omega (arith, inside))
    ∙ ap (take width) (drop-drop (row * width) width xs ∙ ap (λ n. drop n xs) (sym (times_next row width)))

pub row_inside : (width height row : ℕ) (xs : List ℤ) (rows : List (List ℤ)) → rows_of_entries width height xs ≡ rows → length xs ≡ height * width → row < length rows → row * width + width ≤ length xs
row_inside width height row xs rows seen size inside =
    let many : length rows ≡ height = sym (ap length seen) ∙ length_rows width height xs in
    let less : row * width + width ≤ height * width = times_less row height width (omega (arith, inside, many)) in
    omega (arith, less, size)

pub row_is : (width height row start : ℕ) (xs : List ℤ) (rows : List (List ℤ)) → rows_of_entries width height xs ≡ rows → start ≡ row * width → row < length rows → take (start + width - start) (drop start xs) ≡ get_or rows row []
row_is width height row start xs rows seen at inside =
    let many : length rows ≡ height = sym (ap length seen) ∙ length_rows width height xs in
    let size : start + width - start ≡ width = omega arith in
    ap (λ n. take n (drop start xs)) size ∙ ap (λ n. take width (drop n xs)) at ∙ sym (row_at width height row xs (omega (arith, inside, many))) ∙ ap (λ r. get_or r row []) seen

pub blank_rows : (width height : ℕ) → rows_of_entries width height (replicate (height * width) (pos 0)) ≡ replicate height (replicate width (pos 0))
unfolding rows_of_entries
blank_rows width zero = refl
blank_rows width (suc height) =
    let all : replicate (suc height * width) (pos 0) ≡ replicate width (pos 0) ++ replicate (height * width) (pos 0) = ap (λ n. replicate n (pos 0)) (times_next height width) ∙ sym (replicate-append-replicate width (height * width) (pos 0)) in
    let long : length (replicate width (pos 0)) ≡ width = length-replicate width (pos 0) in
    ap (rows_of_entries width (suc height)) all ∙ ap (λ r. r ∷ rows_of_entries width height (drop width (replicate width (pos 0) ++ replicate (height * width) (pos 0)))) (take_at (replicate width (pos 0)) (replicate (height * width) (pos 0)) width long)
    ∙ ap (λ r. replicate width (pos 0) ∷ rows_of_entries width height r) (drop_at (replicate width (pos 0)) (replicate (height * width) (pos 0)) width long)
    ∙ ap (λ r. replicate width (pos 0) ∷ r) (blank_rows width height)

pub no_rows : (width : ℕ) (xs : List ℤ) → rows_of_entries width 0 xs ≡ []
unfolding rows_of_entries
no_rows width xs = refl

pub rows_wide : (width height : ℕ) (xs : List ℤ) (rows : List (List ℤ)) → rows_of_entries width height xs ≡ rows → length xs ≡ height * width → (row : ℕ) → row < length rows → length (get_or rows row []) ≡ width
rows_wide width height xs rows seen size row inside =
    let many : length rows ≡ height = sym (ap length seen) ∙ length_rows width height xs in
    let fits = row_inside width height row xs rows seen size inside in
    let here : get_or rows row [] ≡ take width (drop (row * width) xs) = sym (ap (λ r. get_or r row []) seen) ∙ row_at width height row xs (omega (arith, inside, many)) in
    ap length here ∙ omega (arith, length-take {A = ℤ} width (drop (row * width) xs), length-drop {A = ℤ} (row * width) xs, fits)
