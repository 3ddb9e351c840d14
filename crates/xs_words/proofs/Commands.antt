-- Which command words are.
use Rattle.std.proofs.Common.{◌≡◌, ℕ, Bool, true, false, cond, List, Option, Some, None, ap, bytes_eq, codes, ◌∙◌}
use Rattle.xs_words.specs.Command.{command_of, form_of, given_number, settings_of, trial_settings_of}
use Rattle.xs_words.specs.Table.{Row, decode_rows, encode_rows, trial_rows}
use Rattle.xs_words.specs.Words.{bad_place, table_of, word_in}
use Rattle.xs_words.specs.declared.command.Command.{Command}
use Rattle.xs_words.specs.declared.command.Command.TheVariants.{Decode, Encode, Trial}
use Rattle.xs_words.proofs.BadPlace.{place_of_none}

abbrev decoding : List (List ℕ) → Command
decoding words = Decode (form_of words) (given_number words (codes "--workers")) (given_number words (codes "--feeders"))

abbrev trying : List (List ℕ) → Command
trying words = Trial (trial_settings_of words) (given_number words (codes "--seed"))

abbrev command_by : List (List ℕ) → (encode decode : Bool) → Command
command_by words encode decode = cond encode (Encode (settings_of words) (form_of words)) (cond decode (decoding words) (trying words))

pub encode_asked : (words : List (List ℕ)) → bytes_eq (word_in words 0) (codes "encode") ≡ true → command_of words ≡ Encode (settings_of words) (form_of words)
encode_asked words e = ap (λ (b : Bool). command_by words b (bytes_eq (word_in words 0) (codes "decode"))) e

pub decode_asked : (words : List (List ℕ)) → bytes_eq (word_in words 0) (codes "encode") ≡ false → bytes_eq (word_in words 0) (codes "decode") ≡ true → command_of words ≡ decoding words
decode_asked words e d = ap (λ (b : Bool). command_by words b (bytes_eq (word_in words 0) (codes "decode"))) e ∙ ap (command_by words false) d

pub trial_asked : (words : List (List ℕ)) → bytes_eq (word_in words 0) (codes "encode") ≡ false → bytes_eq (word_in words 0) (codes "decode") ≡ false → command_of words ≡ trying words
trial_asked words e d = ap (λ (b : Bool). command_by words b (bytes_eq (word_in words 0) (codes "decode"))) e ∙ ap (command_by words false) d

abbrev table_by : (encode decode trial : Bool) → Option (List Row)
table_by encode decode trial = cond encode (Some encode_rows) (cond decode (Some decode_rows) (cond trial (Some trial_rows) None))

pub encode_table : (words : List (List ℕ)) → bytes_eq (word_in words 0) (codes "encode") ≡ true → table_of (word_in words 0) ≡ Some encode_rows
encode_table words e = ap (λ (b : Bool). table_by b (bytes_eq (word_in words 0) (codes "decode")) (bytes_eq (word_in words 0) (codes "trial"))) e

pub decode_table : (words : List (List ℕ)) → bytes_eq (word_in words 0) (codes "encode") ≡ false → bytes_eq (word_in words 0) (codes "decode") ≡ true → table_of (word_in words 0) ≡ Some decode_rows
decode_table words e d =
    ap (λ (b : Bool). table_by b (bytes_eq (word_in words 0) (codes "decode")) (bytes_eq (word_in words 0) (codes "trial"))) e
    ∙ ap (λ (b : Bool). table_by false b (bytes_eq (word_in words 0) (codes "trial"))) d

pub trial_table : (words : List (List ℕ)) → bytes_eq (word_in words 0) (codes "encode") ≡ false → bytes_eq (word_in words 0) (codes "decode") ≡ false → bad_place words ≡ None → table_of (word_in words 0) ≡ Some trial_rows
trial_table words e d none =
    by_name (bytes_eq (word_in words 0) (codes "trial"))
    (ap (λ (b : Bool). table_by b (bytes_eq (word_in words 0) (codes "decode")) (bytes_eq (word_in words 0) (codes "trial"))) e
    ∙ ap (λ (b : Bool). table_by false b (bytes_eq (word_in words 0) (codes "trial"))) d)
  where
    by_name : (trial : Bool) → table_of (word_in words 0) ≡ table_by false false trial → table_of (word_in words 0) ≡ Some trial_rows
    by_name true table = table
    by_name false table = let first : bad_place words ≡ Some 0 = place_of_none words table in cc
