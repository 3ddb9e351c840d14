-- The options, and the rows of the table.
use Rattle.std.proofs.Common.{◌≡◌, ℕ, Bool, true, false, cond, ◌||◌, List, [], ◌∷◌, Option, Some, None, map, refl, bytes_eq, Bor, sym, ap, ◌∙◌}
use Rattle.std.proofs.lemmas.Slice.Eq.{bytes_eq-Decides}
use Rattle.std.specs.List.{find, list_any}
use Rattle.std.specs.Option.{option_map, option_copied}
use Rattle.xs_words.specs.Table.{Row}
use Rattle.xs_words.specs.Words.{row_named}
use Rattle.xs_words.specs.Options.{row_of_option, rows_of}
use Rattle.xs_words.specs.declared.option.CommandOption.{CommandOption}

-- a step of find, under a map
step_of : {A B : Type 0} (f : A → B) (x : A) (rest : Option A) (test : Bool) → option_map f (cond test (Some x) rest) ≡ cond test (Some (f x)) (option_map f rest)
step_of f x rest true = refl
step_of f x rest false = refl

find-map : {A B : Type 0} (f : A → B) (p : B → Bool) (xs : List A) → option_map f (find (λ x. p (f x)) xs) ≡ find p (map f xs)
find-map f p [] = refl
find-map f p (x ∷ xs) =
    step_of f x (find (λ y. p (f y)) xs) (p (f x)) ∙ ap (λ rest. cond (p (f x)) (Some (f x)) rest) (find-map f p xs)

pub copied_is : {A : Type 0} (found : Option (Bor A)) → option_copied found ≡ option_map (λ (x : Bor A). x.now) found
copied_is None = refl
copied_is (Some x) = refl

pub option_named : (options : List CommandOption) (word : List ℕ)
    → option_map row_of_option (find (λ (o : CommandOption). bytes_eq word (row_of_option o).name) options) ≡ row_named (rows_of options) word
option_named options word = find-map row_of_option (λ (row : Row). bytes_eq word row.name) options

pub any-map : {A B : Type 0} (f : A → B) (p : B → Bool) (xs : List A) → list_any (λ x. p (f x)) xs ≡ list_any p (map f xs)
any-map f p [] = refl
any-map f p (x ∷ xs) = ap (λ rest. p (f x) || rest) (any-map f p xs)

same_truth : (a b : Bool) → (a ≡ true → b ≡ true) → (b ≡ true → a ≡ true) → a ≡ b
same_truth true b to from = sym (to refl)
same_truth false true to from = absurd (cc (from refl))
same_truth false false to from = refl

equal_either_way : (a b : List ℕ) → bytes_eq a b ≡ bytes_eq b a
equal_either_way a b =
    same_truth (bytes_eq a b) (bytes_eq b a) (λ e. (bytes_eq-Decides b a).1 (sym ((bytes_eq-Decides a b).0 e))) (λ e. (bytes_eq-Decides a b).1 (sym ((bytes_eq-Decides b a).0 e)))

-- whether a word is among others
pub any_words : (words : List (Bor (List ℕ))) (word : List ℕ) → list_any (λ (w : Bor (List ℕ)). bytes_eq w.now word) words ≡ list_any (bytes_eq word) (map (λ (w : Bor (List ℕ)). w.now) words)
any_words [] word = refl
any_words (w ∷ words) word = ap (λ b. b || list_any (λ (w : Bor (List ℕ)). bytes_eq w.now word) words) (equal_either_way w.now word) ∙ ap (λ b. bytes_eq word w.now || b) (any_words words word)
