-- Decimal digits, and the numbers that they spell.
use Rattle.std.proofs.Common.{◌≡◌, ℕ, ◌<◌, ◌≤◌, ◌^◌, true, false, cond, ◌&&◌, List, [], ◌∷◌, length, refl, ap, Result, Ok, Err, Some, None, arith}
use Rattle.std.specs.Result.{OkIff, result_ok}
use Rattle.std.proofs.lemmas.Bool.Decides.{nat_tests}
use Rattle.xs_words.specs.Words.{is_number, decimal_value}
use Rattle.std.specs.List.{list_all}
use Rattle.std.specs.Str.{all_ascii_digits}
use Rattle.std.specs.Str.Parse.{digits_value}
use Rattle.std.specs.Char.{is_ascii_digit}
use Rattle.std.proofs.lemmas.Str.Parse.{IsNumeralModel, numerals_by_value, tells_all_ascii_digits}

pub digits_each : (word : List ℕ) → list_all is_ascii_digit word ≡ all_ascii_digits word
digits_each [] = refl
digits_each (c ∷ cs) = ap (λ rest. is_ascii_digit c && rest) (digits_each cs)

pub decimal : IsNumeralModel (λ word. all_ascii_digits word ≡ true) (digits_value 10)
decimal = numerals_by_value _ tells_all_ascii_digits

pub is_number-too_long : (word : List ℕ) → 10 < length word → is_number word ≡ false
is_number-too_long word long = grind (arith, nat_tests)

pub is_number-no_digits : (word : List ℕ) → all_ascii_digits word ≡ false → is_number word ≡ false
is_number-no_digits word none = grind (arith, nat_tests)

is_number-whole : (word : List ℕ) → 0 < length word → length word ≤ 10 → all_ascii_digits word ≡ true → decimal_value word < 2 ^ 32 → is_number word ≡ true
is_number-whole word some short digits low = grind (arith, nat_tests)

is_number-none : (word : List ℕ) → (0 < length word × (decimal_value word < 2 ^ 32) → ⊥) → is_number word ≡ false
is_number-none word bad = grind (arith, nat_tests)

pub number_parsed : {E : Type 0} (word : List ℕ) (parsed : Result ℕ E) → length word ≤ 10 → all_ascii_digits word ≡ true
    → OkIff parsed ((0 < length word) × (decimal_value word < 2 ^ 32)) (decimal_value word)
    → result_ok parsed ≡ cond (is_number word) (Some (decimal_value word)) None
number_parsed word (Ok n) short digits h = rw (is_number-whole word h.0.0 short digits h.0.1) (ap Some h.1)
number_parsed word (Err e) short digits h = rw (is_number-none word h)
