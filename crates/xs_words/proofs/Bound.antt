-- The first bad word stands near the front: there are no more different names than rows.
use Rattle.std.proofs.Common.{◌≡◌, ◌≢◌, ℕ, zero, suc, ◌+◌, ◌*◌, ◌/◌, ◌<◌, ◌≤◌, Bool, true, false, cond, ◌||◌, eqb, List, [], Option, Some, None, map, length, get_or, refl, sym, ap, ◌∙◌, bytes_eq, codes, ◌&&◌, inl, inr, arith}
use Rattle.std.specs.Prelude.{is_none, IfSome}
use Rattle.std.specs.List.{AllByRecursion, IsDistinct, find, list_any, position_or_len, range_with_len}
use Rattle.std.proofs.lemmas.Bool.Decides.{eqb_tells, leb_tells, nat_tests}
use Rattle.std.proofs.lemmas.List.Folds.{find_at}
use Rattle.std.proofs.lemmas.List.FromFn.{get_or-range_with_len, length-map-range_with_len, length-range_with_len}
use Rattle.std.proofs.lemmas.List.Recursion.{or_at}
use Rattle.std.proofs.lemmas.List.Sums.{passes_at_first}
use Rattle.std.proofs.lemmas.Map.Steps.{length-le_from_distinct_below}
use Rattle.std.proofs.lemmas.Option.{slice_get_past}
use Rattle.std.proofs.lemmas.Slice.Eq.{bytes_eq-Decides}
use Rattle.xs_lists.specs.Spelling.{upto}
use Rattle.xs_words.specs.Table.{Row, decode_rows, encode_rows, trial_rows, required}
use Rattle.xs_words.specs.Words.{bad_place, is_bad_name, is_bad_value, is_name_at, is_name_place, is_named_before, row_named, table_of, word_in}
use Rattle.xs_words.proofs.Places.{stop}
use Rattle.xs_words.proofs.BadPlace.{good_before}
use Rattle.xs_words.proofs.Given.{neither}

abbrev no_row : Row
no_row = required []

-- the place in the table of the row that a word names
abbrev names : List ℕ → Row → Bool
names word row = bytes_eq word row.name

abbrev seat_of : List Row → List ℕ → ℕ
seat_of table word = position_or_len (names word) table

position-below : {A : Type 0} (test : A → Bool) (xs : List A) → is_none (find test xs) ≡ false → position_or_len test xs < length xs
position-below test xs known =
    elim (leb_tells (length xs) (position_or_len test xs)) [
      | inl past ↦
          let none = ap is_none (find_at test xs ∙ slice_get_past xs (position_or_len test xs) past.1) in
          cc
      | inr within ↦ within.1
    ]

seat-below : (table : List Row) (word : List ℕ) → is_none (row_named table word) ≡ false → seat_of table word < length table
seat-below table word known = position-below (names word) table known

same_seat : (table : List Row) (word other : List ℕ) → is_none (row_named table word) ≡ false → is_none (row_named table other) ≡ false → seat_of table word ≡ seat_of table other → word ≡ other
same_seat table word other known also same =
    let row = get_or table (seat_of table word) no_row in
    let first = (bytes_eq-Decides word row.name).0 (passes_at_first (names word) table no_row (seat-below table word known)) in
    let second = (bytes_eq-Decides other (get_or table (seat_of table other) no_row).name).0 (passes_at_first (names other) table no_row (seat-below table other also)) in
    first ∙ ap (λ i. (get_or table i no_row).name) same ∙ sym second

apart_from : (f : ℕ → ℕ) (low n x : ℕ) → ((k : ℕ) → low ≤ k → k < low + n → x ≢ f k) → AllByRecursion (λ y. eqb x y ≡ false) (map f (range_with_len low n))
apart_from f low zero x apart = tt
apart_from f low (suc n) x apart = (
  elim (eqb_tells x (f low)) [ inl same ↦ absurd (apart low (omega arith) (omega arith) same.1) | inr other ↦ other.0 ],
  apart_from f (low + 1) n x (λ k from below. apart k (omega arith) (omega arith)),
)

distinct_by : (f : ℕ → ℕ) (low n : ℕ) → ((j k : ℕ) → low ≤ j → j < k → k < low + n → f j ≢ f k) → IsDistinct eqb (map f (range_with_len low n))
unfolding IsDistinct
distinct_by f low zero apart = tt
distinct_by f low (suc n) apart = (
  apart_from f (low + 1) n (f low) (λ k from below. apart low k (omega arith) (omega arith) (omega arith)),
  distinct_by f (low + 1) n (λ j k from above below. apart j k (omega arith) above (omega arith)),
)

below-step : (q x high : ℕ) (rest : Bool) → x < high → (rest ≡ true → q < high) → (eqb q x || rest) ≡ true → q < high
below-step q x high rest here more e =
    elim (eqb_tells q x) [ inl same ↦ omega (arith, same.1) | inr other ↦ more (sym (ap (λ b. b || rest) other.0) ∙ e) ]

below_all : (f : ℕ → ℕ) (high low n : ℕ) → ((k : ℕ) → low ≤ k → k < low + n → f k < high) → (q : ℕ) → list_any (eqb q) (map f (range_with_len low n)) ≡ true → q < high
below_all f high low zero each q e = cc
below_all f high low (suc n) each q e =
    below-step q (f low) high (list_any (eqb q) (map f (range_with_len (low + 1) n))) (each low (omega arith) (omega arith))
    (below_all f high (low + 1) n (λ k from below. each k (omega arith) (omega arith)) q) e

-- numbers below a bound that are all different are no more than the bound
pigeons : (f : ℕ → ℕ) (high n : ℕ) → ((k : ℕ) → k < n → f k < high) → ((j k : ℕ) → j < k → k < n → f j ≢ f k) → n ≤ high
pigeons f high n each apart =
    let size = length-map-range_with_len f 0 n in
    let few = length-le_from_distinct_below (map f (range_with_len 0 n)) high (distinct_by f 0 n (λ j k from above below. apart j k above (omega arith))) (below_all f high 0 n (λ k from below. each k (omega arith))) in
    omega arith

-- the names before the first bad word
name_at : List (List ℕ) → ℕ → List ℕ
name_at words j = word_in words (2 * j + 1)

name_place-odd : (j : ℕ) → is_name_place (2 * j + 1) ≡ true
name_place-odd j = grind (arith, nat_tests)

chosen : (b x y : Bool) → b ≡ true → cond b x y ≡ x
chosen true x y e = refl
chosen false x y e = cc

good_name : (words : List (List ℕ)) (table : List Row) → table_of (word_in words 0) ≡ Some table → (j : ℕ) → 2 * j + 1 < stop (length words) (bad_place words)
    → (is_none (row_named table (word_in words (2 * j + 1))) ≡ false) × (is_named_before words (word_in words (2 * j + 1)) (2 * j + 1) ≡ false)
good_name words table t j below =
    let place = 2 * j + 1 in
    let good = good_before words table t place (omega arith) below in
    let name = sym (chosen (is_name_place place) (is_bad_name table words place) (is_bad_value table words place) (name_place-odd j)) ∙ good in
    neither (is_none (row_named table (word_in words place))) (is_named_before words (word_in words place) place) name

-- a name that stands earlier is named before
named_before : (words : List (List ℕ)) (j k : ℕ) → j < k → word_in words (2 * j + 1) ≡ word_in words (2 * k + 1) → is_named_before words (word_in words (2 * k + 1)) (2 * k + 1) ≡ true
named_before words j k above same =
    let word = word_in words (2 * k + 1) in
    let test = is_name_at words word in
    let there : 2 * j + 1 < length (upto (2 * k + 1)) = omega (arith, length-range_with_len 0 (2 * k + 1)) in
    let start : 0 + (2 * j + 1) ≡ 2 * j + 1 = omega arith in
    let at : get_or (upto (2 * k + 1)) (2 * j + 1) 0 ≡ 2 * j + 1 = get_or-range_with_len 0 (2 * k + 1) (2 * j + 1) 0 (omega arith) ∙ start in
    let spelled = (bytes_eq-Decides (word_in words (2 * j + 1)) word).1 same in
    let named : test (2 * j + 1) ≡ true = ap (λ b. b && bytes_eq (word_in words (2 * j + 1)) word) (name_place-odd j) ∙ spelled in
    or_at (list_any test) test refl (λ _ _. refl) (upto (2 * k + 1)) (2 * j + 1) 0 there (ap test at ∙ named)

names_apart : (words : List (List ℕ)) (table : List Row) → table_of (word_in words 0) ≡ Some table → (j k : ℕ) → j < k → 2 * k + 1 < stop (length words) (bad_place words)
    → seat_of table (word_in words (2 * j + 1)) ≢ seat_of table (word_in words (2 * k + 1))
names_apart words table t j k above below same =
    let first = good_name words table t j (omega arith) in
    let second = good_name words table t k below in
    let repeated = named_before words j k above (same_seat table (word_in words (2 * j + 1)) (word_in words (2 * k + 1)) first.0 second.0 same) in
    let once = second.1 in
    cc

-- each table has at most twenty-one rows
few_rows : (word : List ℕ) (table : List Row) → table_of word ≡ Some table → length table ≤ 21
few_rows word table = by_name (bytes_eq word (codes "encode")) (bytes_eq word (codes "decode")) (bytes_eq word (codes "trial"))
  where
    by_name : (encode decode trial : Bool) → cond encode (Some encode_rows) (cond decode (Some decode_rows) (cond trial (Some trial_rows) None)) ≡ Some table → length table ≤ 21
    by_name true decode trial e = let same : encode_rows ≡ table = cc in omega (arith, ap length same)
    by_name false true trial e = let same : decode_rows ≡ table = cc in omega (arith, ap length same)
    by_name false false true e = let same : trial_rows ≡ table = cc in omega (arith, ap length same)
    by_name false false false e = absurd (cc)

near-where : (words : List (List ℕ)) (table : List Row) → table_of (word_in words 0) ≡ Some table → (found : Option ℕ) → bad_place words ≡ found → IfSome found (λ place. place ≤ 43)
near-where words table t None e = tt
near-where words table t (Some place) e =
    let end : stop (length words) (bad_place words) ≡ place = ap (stop (length words)) e in
    let most = few_rows (word_in words 0) table t in
    let few = pigeons (λ j. seat_of table (word_in words (2 * j + 1))) (length table) (place / 2)
    (λ k below. seat-below table (word_in words (2 * k + 1)) (good_name words table t k (omega arith)).0)
    (λ j k above below. names_apart words table t j k above (omega arith)) in
    omega arith

-- the first bad word of a command is one of the first forty-four
pub near : (words : List (List ℕ)) (table : List Row) → table_of (word_in words 0) ≡ Some table → IfSome (bad_place words) (λ place. place ≤ 43)
near words table t = near-where words table t (bad_place words) refl
