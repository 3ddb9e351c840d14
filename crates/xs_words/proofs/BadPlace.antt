-- The place of the first bad word, where the first word is a command of this table.
use Rattle.std.proofs.Common.{◌≡◌, ℕ, ◌-◌, ◌<◌, ◌≤◌, subst, Bool, true, false, refl, List, length, Option, Some, None, ap, sym, ◌∙◌}
use Rattle.std.specs.Bool.{then_some}
use Rattle.std.specs.List.{find}
use Rattle.xs_lists.specs.First.{first_of}
use Rattle.xs_words.specs.Table.{Row}
use Rattle.xs_words.specs.Words.{bad_place, end_early, is_bad_word, places_of_words, table_of, word_in, word_refusals}
use Rattle.xs_words.proofs.Places.{fails_before, first_place, or_end, or_end-none, stop, stop-or_end, stop-shift}

pub place_where : List (List ℕ) → Option (List Row) → Option ℕ
place_where words found = elim found [ None ↦ Some 0 | Some table ↦ first_of (word_refusals table words) ]

pub place_after_command : (words : List (List ℕ)) (table : List Row) → table_of (word_in words 0) ≡ Some table
    → bad_place words ≡ or_end (end_early table words) (length words) (find (is_bad_word table words) (places_of_words words))
unfolding place_where
place_after_command words table e =
    ap (place_where words) e ∙ first_place (end_early table words) (length words) (is_bad_word table words) (places_of_words words)

-- other words are bad from the first on
pub place_of_none : (words : List (List ℕ)) → table_of (word_in words 0) ≡ None → bad_place words ≡ Some 0
unfolding place_where
place_of_none words e = ap (place_where words) e

pub then_some_is : (last : Bool) (end : ℕ) → then_some last end ≡ or_end last end None
then_some_is true end = refl
then_some_is false end = refl

-- the words before the first bad one are as they should be
pub good_before : (words : List (List ℕ)) (table : List Row) → table_of (word_in words 0) ≡ Some table
    → (k : ℕ) → 1 ≤ k → k < stop (length words) (bad_place words) → is_bad_word table words k ≡ false
good_before words table e k from below =
    let test = is_bad_word table words in
    let found = find test (places_of_words words) in
    let before : k < stop (length words) found =
    subst (λ end. k < end) (ap (stop (length words)) (place_after_command words table e) ∙ stop-or_end (end_early table words) (length words) found) below in
    fails_before test 1 (length words - 1) k from (stop-shift k (length words) found from before)

-- a command does not end early
pub whole : (words : List (List ℕ)) (table : List Row) → table_of (word_in words 0) ≡ Some table → bad_place words ≡ None → end_early table words ≡ false
whole words table e none =
    or_end-none (end_early table words) (length words) (find (is_bad_word table words) (places_of_words words)) (sym (place_after_command words table e) ∙ none)
