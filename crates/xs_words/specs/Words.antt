-- Which words are a command, and the place of the first that is not as it should be: 'Command words'.
use Rattle.std.specs.Prelude.{ℕ, ◌+◌, ◌-◌, ◌%◌, ◌^◌, Bool, true, false, not, ◌&&◌, ◌||◌, nat_eq, nat_le, is_none, unwrap_or, if◌then◌else◌, Option, None, Some, List, [], ◌∷◌, ◌++◌, length, map, find, slice_index_or, codes, bytes_eq}
use Rattle.std.specs.Option.{option_and_then}
use Rattle.std.specs.List.{list_any, range_with_len}
use Rattle.std.specs.Str.{all_ascii_digits}
use Rattle.std.specs.Str.Parse.{digits_value}
use Rattle.xs_lists.specs.First.{first_of}
use Rattle.xs_lists.specs.Spelling.{upto}
use Rattle.xs_words.specs.Table.{Kind, Number, Choice, Row, encode_rows, decode_rows, trial_rows}

abbrev pub word_in : List (List ℕ) → ℕ → List ℕ
word_in words place = slice_index_or words place []

-- the table of a command
abbrev pub table_of : List ℕ → Option (List Row)
table_of word = if bytes_eq word (codes "encode") then Some encode_rows else if bytes_eq word (codes "decode") then Some decode_rows else if bytes_eq word (codes "trial") then Some trial_rows else None

-- a number: one to ten decimal digits, and a value of 32 bits
abbrev pub decimal_value : List ℕ → ℕ
decimal_value word = digits_value 10 word

abbrev pub is_number : List ℕ → Bool
is_number word = nat_le 1 (length word) && nat_le (length word) 10 && all_ascii_digits word && nat_le (decimal_value word) (2 ^ 32 - 1)

-- the word is a value as its option asks
abbrev pub is_value : Kind → List ℕ → Bool
is_value Number word = is_number word
is_value (Choice words) word = list_any (bytes_eq word) words

-- the option that a word names
abbrev pub row_named : List Row → List ℕ → Option Row
row_named table word = find (λ (row : Row). bytes_eq word row.name) table

-- names stand at the odd places, and values at the even ones after them
abbrev pub is_name_place : ℕ → Bool
is_name_place place = nat_eq (place % 2) 1

-- the word at the place is this name
abbrev pub is_name_at : List (List ℕ) → List ℕ → ℕ → Bool
is_name_at words word place = is_name_place place && bytes_eq (word_in words place) word

-- the word stands as a name before the place
abbrev pub is_named_before : List (List ℕ) → List ℕ → ℕ → Bool
is_named_before words word place = list_any (is_name_at words word) (upto place)

-- a name is not in the table, or stands for the second time
abbrev pub is_bad_name : List Row → List (List ℕ) → ℕ → Bool
is_bad_name table words place = is_none (row_named table (word_in words place)) || is_named_before words (word_in words place) place

-- a value is not spelled as the option before it asks
abbrev pub is_bad_value : List Row → List (List ℕ) → ℕ → Bool
is_bad_value table words place = elim (row_named table (word_in words (place - 1))) [ None ↦ true | Some row ↦ not (is_value row.kind (word_in words place)) ]

abbrev pub is_bad_word : List Row → List (List ℕ) → ℕ → Bool
is_bad_word table words place = if is_name_place place then is_bad_name table words place else is_bad_value table words place

-- the place of an option's name
abbrev pub name_place : List (List ℕ) → List ℕ → Option ℕ
name_place words name = find (is_name_at words name) (upto (length words))

-- a required option is not among the words
abbrev pub is_missing : List (List ℕ) → Row → Bool
is_missing words row = is_none row.default && is_none (name_place words row.name)

-- the words end where a value is missing, or without a required option
abbrev pub end_early : List Row → List (List ℕ) → Bool
end_early table words = nat_eq (length words % 2) 0 || list_any (is_missing words) table

-- the places after the command
abbrev pub places_of_words : List (List ℕ) → List ℕ
places_of_words words = range_with_len 1 (length words - 1)

-- the words after the command, from left to right, each with its place; and then the end
abbrev pub word_refusals : List Row → List (List ℕ) → List (Bool × ℕ)
word_refusals table words = map (λ place. (is_bad_word table words place, place)) (places_of_words words) ++ (end_early table words, length words) ∷ []

-- the place of the first word that is not as it should be; there is none exactly where the words are a command
abbrev pub bad_place : List (List ℕ) → Option ℕ
bad_place words = elim (table_of (word_in words 0)) [ None ↦ Some 0 | Some table ↦ first_of (word_refusals table words) ]

-- the default of an option in the table of the words' command
abbrev pub default_of : List (List ℕ) → List ℕ → List ℕ
default_of words name = unwrap_or (option_and_then (λ (row : Row). row.default) (option_and_then (λ table. row_named table name) (table_of (word_in words 0)))) []

-- the value of an option: the word after its name, or else its default
abbrev pub value_of : List (List ℕ) → List ℕ → List ℕ
value_of words name = elim (name_place words name) [ None ↦ default_of words name | Some place ↦ word_in words (place + 1) ]

-- Options of numbers

-- the values are numbers, and so is the default if there is one
abbrev pub has_number_by : Kind → Option (List ℕ) → Bool
has_number_by Number None = true
has_number_by Number (Some word) = is_number word
has_number_by (Choice words) default = false

abbrev pub has_number : Row → Bool
has_number row = has_number_by row.kind row.default

abbrev pub has_number_if : Option Row → Bool
has_number_if None = false
has_number_if (Some row) = has_number row

-- the table has an option of numbers with this name
abbrev pub is_numeric : List Row → List ℕ → Bool
is_numeric table name = has_number_if (row_named table name)
