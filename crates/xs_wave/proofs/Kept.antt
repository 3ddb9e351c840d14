-- A row is written in its place.
use Rattle.std.proofs.Common.{◌≡◌, ◌<◌, ◌≤◌, ◌+◌, ◌*◌, ℕ, zero, suc, ℤ, List, [], ◌∷◌, ◌++◌, length, take, drop, get_or, refl, sym, ap, ◌∙◌, arith, Vec, take-add}
use Rattle.std.proofs.Math.ListN.{set}
use Rattle.std.proofs.lemmas.List.{length-drop, length-append, drop-drop, take_at, drop_at, append_assoc, take-append-le, length-take-le, drop_all, drop_more, set_split}
use Rattle.std.specs.Vec.{with_items_from}
use Rattle.std.specs.declared.alloc.Global.{Global}
use Rattle.xs_wave.specs.Rows.{rows_of_entries, kept_entries, over}
use Rattle.xs_wave.proofs.Flat.{times_next, length_rows}

drop_none : (n : ℕ) → drop {A = ℤ} n [] ≡ []
drop_none zero = refl
drop_none (suc n) = refl

take_kept : (n : ℕ) (old new : List ℤ) → take n (kept_entries old new) ≡ kept_entries (take n old) new
take_kept zero old new = refl
take_kept (suc n) [] new = refl
take_kept (suc n) (x ∷ old) [] = ap (λ l. x ∷ l) (take_kept n old [])
take_kept (suc n) (x ∷ old) (y ∷ new) = ap (λ l. y ∷ l) (take_kept n old new)

drop_kept : (n : ℕ) (old new : List ℤ) → drop n (kept_entries old new) ≡ kept_entries (drop n old) (drop n new)
drop_kept zero old new = refl
drop_kept (suc n) [] new = refl
drop_kept (suc n) (x ∷ old) [] = drop_kept n old [] ∙ ap (kept_entries (drop n old)) (drop_none n)
drop_kept (suc n) (x ∷ old) (y ∷ new) = drop_kept n old new

length_kept : (old new : List ℤ) → length (kept_entries old new) ≡ length old
length_kept [] new = refl
length_kept (x ∷ old) [] = ap (λ n. suc n) (length_kept old [])
length_kept (x ∷ old) (y ∷ new) = ap (λ n. suc n) (length_kept old new)

kept_none : (old : List ℤ) → kept_entries old [] ≡ old
kept_none [] = refl
kept_none (x ∷ old) = ap (λ l. x ∷ l) (kept_none old)

kept_all : (old new : List ℤ) → length new ≡ length old → kept_entries old new ≡ new
kept_all [] [] same = refl
kept_all [] (y ∷ new) same = absurd (omega (arith, same))
kept_all (x ∷ old) [] same = absurd (omega (arith, same))
kept_all (x ∷ old) (y ∷ new) same = ap (λ l. y ∷ l) (kept_all old new (omega (arith, same)))

over_none : (rows : List (List ℤ)) → over rows [] ≡ rows
over_none [] = refl
over_none (row ∷ rows) = ap (λ l. kept_entries row [] ∷ over rows l) (drop_none (length row)) ∙ ap (λ r. r ∷ over rows []) (kept_none row) ∙ ap (λ l. row ∷ l) (over_none rows)

-- what is left behind a row's reference is as long as the row, and stands in its place
pub row_lent : (rows : List (List ℤ)) (at : ℕ) (new : List ℤ) → at < length rows → length new ≡ length (get_or rows at []) → take at rows ++ over (drop at rows) new ≡ set rows at new
row_lent rows at new inside same =
    let row = get_or rows at [] in
    let next : at + 1 ≡ suc at = omega arith in
    let none : drop (length row) new ≡ [] = drop_all (length row) new (omega (arith, same)) in
    ap (λ l. take at rows ++ over l new) (drop_more rows at [] inside) ∙ ap (λ r. take at rows ++ (r ∷ over (drop (at + 1) rows) (drop (length row) new))) (kept_all row new same)
    ∙ ap (λ l. take at rows ++ (new ∷ over (drop (at + 1) rows) l)) none ∙ ap (λ l. take at rows ++ (new ∷ l)) (over_none (drop (at + 1) rows) ∙ ap (λ n. drop n rows) next) ∙ sym (set_split rows at new inside)

-- ---- in the list that holds the rows

first_over : (width height : ℕ) (xs new : List ℤ) → length xs ≡ height * width → rows_of_entries width height (kept_entries xs new) ≡ over (rows_of_entries width height xs) new
unfolding rows_of_entries
first_over width zero xs new size = refl
first_over width (suc height) xs new size =
    let all = times_next height width in
    let enough : width ≤ length xs = omega (arith, size, all) in
    let long : length (take width xs) ≡ width = length-take-le width xs enough in
    let fits : length (drop width xs) ≡ height * width = omega (arith, length-drop {A = ℤ} width xs, size, all) in
    ap (λ r. r ∷ rows_of_entries width height (drop width (kept_entries xs new))) (take_kept width xs new) ∙ ap (λ r. kept_entries (take width xs) new ∷ rows_of_entries width height r) (drop_kept width xs new)
    ∙ ap (λ r. kept_entries (take width xs) new ∷ r) (first_over width height (drop width xs) (drop width new) fits) ∙ ap (λ n. kept_entries (take width xs) new ∷ over (rows_of_entries width height (drop width xs)) (drop n new)) (sym long)

rows_over : (width height at : ℕ) (xs new : List ℤ) → length xs ≡ height * width → at ≤ height
    → rows_of_entries width height (take (at * width) xs ++ kept_entries (drop (at * width) xs) new) ≡ take at (rows_of_entries width height xs) ++ over (drop at (rows_of_entries width height xs)) new
unfolding rows_of_entries
rows_over width height zero xs new size inside =
    let none : 0 * width ≡ 0 = omega arith in
    ap (λ n. rows_of_entries width height (take n xs ++ kept_entries (drop n xs) new)) none ∙ first_over width height xs new size
rows_over width zero (suc at) xs new size inside = absurd (omega (arith, inside))
rows_over width (suc height) (suc at) xs new size inside =
    let next = times_next at width in
    let all = times_next height width in
    let enough : width ≤ length xs = omega (arith, size, all) in
    let long : length (take width xs) ≡ width = length-take-le width xs enough in
    let fits : length (drop width xs) ≡ height * width = omega (arith, length-drop {A = ℤ} width xs, size, all) in
    let rest = take (at * width) (drop width xs) ++ kept_entries (drop (at * width) (drop width xs)) new in
    let back : drop (width + at * width) xs ≡ drop (at * width) (drop width xs) = sym (drop-drop (at * width) width xs) in
    let whole : take (suc at * width) xs ++ kept_entries (drop (suc at * width) xs) new ≡ take width xs ++ rest =
    ap (λ n. take n xs ++ kept_entries (drop n xs) new) next ∙ ap (λ l. l ++ kept_entries (drop (width + at * width) xs) new) (take-add width (at * width) xs)
    ∙ append_assoc (take width xs) (take (at * width) (drop width xs)) (kept_entries (drop (width + at * width) xs) new) ∙ ap (λ l. take width xs ++ (take (at * width) (drop width xs) ++ kept_entries l new)) back in
    ap (rows_of_entries width (suc height)) whole ∙ ap (λ r. r ∷ rows_of_entries width height (drop width (take width xs ++ rest))) (take_at (take width xs) rest width long)
    ∙ ap (λ r. take width xs ∷ rows_of_entries width height r) (drop_at (take width xs) rest width long) ∙ ap (λ r. take width xs ∷ r) (rows_over width height at (drop width xs) new fits (omega (arith, inside)))

lent_items : (v : Vec ℤ Global) (start : ℕ) (new : List ℤ) → start ≤ length v.items → (with_items_from v start new).items ≡ take start v.items ++ kept_entries (drop start v.items) new
lent_items v start new inside =
    let xs = v.items in
    let back = drop start xs in
    let part = new ++ drop (length new) back in
    let whole = take start xs ++ part in
    let rest = drop (length whole) xs in
    let front : length (take start xs) ≡ start = length-take-le start xs inside in
    let count : length xs ≡ start + length back = omega (arith, length-drop {A = ℤ} start xs, inside) in
    let most : length back ≤ length part = omega (arith, length-append {A = ℤ} new (drop (length new) back), length-drop {A = ℤ} (length new) back) in
    let over_front : drop start (whole ++ rest) ≡ part ++ rest = ap (drop start) (append_assoc (take start xs) part rest) ∙ drop_at (take start xs) (part ++ rest) start front in
    let first : take start (whole ++ rest) ≡ take start xs = ap (take start) (append_assoc (take start xs) part rest) ∙ take_at (take start xs) (part ++ rest) start front in
    ap (λ n. take n (whole ++ rest)) (v.ok.0 ∙ count) ∙ take-add start (length back) (whole ++ rest) ∙ ap (λ l. l ++ take (length back) (drop start (whole ++ rest))) first
    ∙ ap (λ l. take start xs ++ take (length back) l) over_front ∙ ap (λ l. take start xs ++ l) (take-append-le (length back) part rest most)

pub view_lent : (width height at start : ℕ) (v : Vec ℤ Global) (rows : List (List ℤ)) (new : List ℤ) → rows_of_entries width height v.items ≡ rows → length v.items ≡ height * width → at < length rows → start ≡ at * width → start ≤ length v.items
    → rows_of_entries width height (with_items_from v start new).items ≡ take at rows ++ over (drop at rows) new
view_lent width height at start v rows new seen size inside place fits =
    let many : length rows ≡ height = sym (ap length seen) ∙ length_rows width height v.items in
    ap (rows_of_entries width height) (lent_items v start new fits) ∙ ap (λ n. rows_of_entries width height (take n v.items ++ kept_entries (drop n v.items) new)) place
    ∙ rows_over width height at v.items new size (omega (arith, inside, many)) ∙ ap (λ r. take at r ++ over (drop at r) new) seen

pub length_lent : (start : ℕ) (v : Vec ℤ Global) (new : List ℤ) → start ≤ length v.items → length (with_items_from v start new).items ≡ length v.items
length_lent start v new fits =
    ap length (lent_items v start new fits)
    ∙ omega (arith, length-append {A = ℤ} (take start v.items) (kept_entries (drop start v.items) new), length_kept (drop start v.items) new, length-take-le start v.items fits, length-drop {A = ℤ} start v.items, fits)
