-- What is given for an option of numbers is a number.
use Rattle.std.proofs.Common.{◌≡◌, ℕ, ◌+◌, ◌-◌, ◌<◌, ◌%◌, Bool, true, false, cond, not, ◌&&◌, ◌||◌, eqb, List, [], ◌∷◌, Option, Some, None, length, refl, sym, ap, ◌∙◌, subst, bytes_eq, arith}
use Rattle.std.specs.Prelude.{is_none, unwrap_or, IfSome}
use Rattle.std.specs.List.{list_any, find}
use Rattle.std.specs.Option.{option_and_then}
use Rattle.std.proofs.lemmas.Bool.Decides.{nat_tests}
use Rattle.std.proofs.lemmas.Slice.Eq.{bytes_eq-Decides}
use Rattle.xs_words.specs.Table.{Kind, Number, Choice, Row}
use Rattle.xs_words.specs.Words.{bad_place, default_of, has_number, has_number_by, has_number_if, is_bad_name, is_bad_value, is_missing, is_name_at, is_name_place, is_number, is_numeric, is_value, name_place, row_named, table_of, value_of, word_in}
use Rattle.xs_words.proofs.Places.{IsFound, found_in, stop}
use Rattle.xs_words.proofs.BadPlace.{good_before, whole}

pub both : (a b : Bool) → (a && b) ≡ true → (a ≡ true) × (b ≡ true)
both true b e = (refl, e)
both false b e = cc

pub neither : (a b : Bool) → (a || b) ≡ false → (a ≡ false) × (b ≡ false)
neither true b e = cc
neither false b e = (refl, e)

not-false : (b : Bool) → not b ≡ false → b ≡ true
not-false true e = refl
not-false false e = cc

otherwise : (b x y : Bool) → b ≡ false → cond b x y ≡ y
otherwise true x y e = cc
otherwise false x y e = refl

odd : (place : ℕ) → is_name_place place ≡ true → place % 2 ≡ 1
odd place e = grind (arith, nat_tests)

even : (place : ℕ) → place % 2 ≡ 0 → is_name_place place ≡ false
even place e = grind (arith, nat_tests)

odd_size : (size : ℕ) → eqb (size % 2) 0 ≡ false → size % 2 ≡ 1
odd_size size e = grind (arith, nat_tests)

abbrev is_bad_for : Option Row → List ℕ → Bool
is_bad_for found word = elim found [ None ↦ true | Some row ↦ not (is_value row.kind word) ]

-- the value after the name of an option
value_at : (words : List (List ℕ)) (table : List Row) → table_of (word_in words 0) ≡ Some table → bad_place words ≡ None → (name : List ℕ) (row : Row) → row_named table name ≡ Some row
    → (place : ℕ) → IsFound (is_name_at words name) 0 (0 + length words) place → is_value row.kind (word_in words (place + 1)) ≡ true
value_at words table t command name row named place found =
    let at = both (is_name_place place) (bytes_eq (word_in words place) name) found.passes in
    let spelled : word_in words place ≡ name = (bytes_eq-Decides (word_in words place) name).0 at.1 in
    let size = odd_size (length words) (neither (eqb (length words % 2) 0) (list_any (is_missing words) table) (whole words table t command)).0 in
    let here = odd place at.0 in
    let next : place + 1 < length words = omega (arith, found.below) in
    let apart : (place + 1) % 2 ≡ 0 = omega arith in
    let good = good_before words table t (place + 1) (omega arith) (subst (λ o. place + 1 < stop (length words) o) (sym command) next) in
    let bad = sym (otherwise (is_name_place (place + 1)) (is_bad_name table words (place + 1)) (is_bad_value table words (place + 1)) (even (place + 1) apart)) ∙ good in
    let back : place + 1 - 1 ≡ place = omega arith in
    let before : row_named table (word_in words (place + 1 - 1)) ≡ Some row = ap (λ p. row_named table (word_in words p)) back ∙ ap (row_named table) spelled ∙ named in
    not-false (is_value row.kind (word_in words (place + 1))) (sym (ap (λ o. is_bad_for o (word_in words (place + 1))) before) ∙ bad)

-- what is found passes
found_step : (test other : Row → Bool) (first row : Row) (rest : Option Row) (b : Bool) (more : Bool) → test first ≡ b → cond b (Some first) rest ≡ Some row → (other first || more) ≡ false
    → (rest ≡ Some row → more ≡ false → (test row ≡ true) × (other row ≡ false)) → (test row ≡ true) × (other row ≡ false)
found_step test other first row rest true more e found none next = let same : first ≡ row = cc in (sym (ap test same) ∙ e, sym (ap other same) ∙ (neither (other first) more none).0)
found_step test other first row rest false more e found none next = next found (neither (other first) more none).1

-- what is found in a list passes, and fails another test that none passes
found_passes : (test other : Row → Bool) (rows : List Row) (row : Row) → find test rows ≡ Some row → list_any other rows ≡ false → (test row ≡ true) × (other row ≡ false)
found_passes test other [] row found none = cc
found_passes test other (first ∷ rows) row found none =
    found_step test other first row (find test rows) (test first) (list_any other rows) refl found none (found_passes test other rows row)

-- an option of numbers
number_kind : (kind : Kind) (default : Option (List ℕ)) → has_number_by kind default ≡ true → (word : List ℕ) → is_value kind word ≡ is_number word
number_kind Number default e word = refl
number_kind (Choice words) default e word = cc

number_default : (kind : Kind) (default : Option (List ℕ)) (name_there : Bool) → has_number_by kind default ≡ true → (is_none default && name_there) ≡ false → name_there ≡ true → is_number (unwrap_or default []) ≡ true
number_default Number (Some word) name_there e missing none = e
number_default Number None name_there e missing none = cc
number_default (Choice words) default name_there e missing none = cc

abbrev default_by : List ℕ → Option (List Row) → List ℕ
default_by name found = unwrap_or (option_and_then (λ (row : Row). row.default) (option_and_then (λ table. row_named table name) found)) []

value_where : (words : List (List ℕ)) (table : List Row) → table_of (word_in words 0) ≡ Some table → bad_place words ≡ None → (name : List ℕ) (row : Row) → row_named table name ≡ Some row → has_number row ≡ true
    → (found : Option ℕ) → name_place words name ≡ found → IfSome found (IsFound (is_name_at words name) 0 (0 + length words))
    → is_number (elim found [ None ↦ default_of words name | Some place ↦ word_in words (place + 1) ]) ≡ true
value_where words table t command name row named numeric (Some place) e h =
    sym (number_kind row.kind row.default numeric (word_in words (place + 1))) ∙ value_at words table t command name row named place h
value_where words table t command name row named numeric None e h =
    let none = (neither (eqb (length words % 2) 0) (list_any (is_missing words) table) (whole words table t command)).1 in
    let passes = found_passes (λ (r : Row). bytes_eq name r.name) (is_missing words) table row named none in
    let same : name ≡ row.name = (bytes_eq-Decides name row.name).0 passes.0 in
    let absent : is_none (name_place words row.name) ≡ true = ap (λ n. is_none (name_place words n)) (sym same) ∙ ap is_none e in
    let default : default_of words name ≡ unwrap_or row.default [] = ap (default_by name) t ∙ ap (λ (o : Option Row). unwrap_or (option_and_then (λ (r : Row). r.default) o) []) named in
    ap is_number default ∙ number_default row.kind row.default (is_none (name_place words row.name)) numeric passes.1 absent

named_where : (words : List (List ℕ)) (table : List Row) → table_of (word_in words 0) ≡ Some table → bad_place words ≡ None → (name : List ℕ) (found : Option Row) → row_named table name ≡ found → has_number_if found ≡ true
    → is_number (value_of words name) ≡ true
named_where words table t command name None named numeric = cc
named_where words table t command name (Some row) named numeric =
    value_where words table t command name row named numeric (name_place words name) refl (found_in (is_name_at words name) 0 (length words))

-- what is given for an option of numbers, or its default, is a number
pub number_given : (words : List (List ℕ)) (table : List Row) → table_of (word_in words 0) ≡ Some table → bad_place words ≡ None → (name : List ℕ) → is_numeric table name ≡ true → is_number (value_of words name) ≡ true
number_given words table t command name numeric = named_where words table t command name (row_named table name) refl numeric
