-- The places of a lane, and sets of them. What rests on the number of places, or on how a set is kept, stands here.
-- A set of places is eight words: the bit b of the word w is 1 where the place 64 * w + b is in the set. A set of words is a number: its bit w is 1 where the word w is in it.
use Rattle.std.specs.Prelude.{◌≡◌, ℕ, suc, ◌-◌, ◌/◌, ◌%◌, ◌^◌, ◌<◌, ◌≤◌, List, bit_or, slice_index, slice_set}
use Rattle.std.specs.Int.{bit_at}

-- how many places a lane has, and how many words a set of them
abbrev pub places : ℕ
places = 512

abbrev pub last_place : ℕ
last_place = 511

abbrev pub set_words : ℕ
set_words = 8

-- the word of a set in which a place has its bit, and which bit it is
abbrev pub word_of : ℕ → ℕ
word_of place = place / 64

abbrev pub place_bit : ℕ → ℕ
place_bit place = place % 64

-- 1 where the place is in the set, else 0
abbrev pub has : List ℕ → ℕ → ℕ
has set place = bit_at (slice_index set (word_of place)) (place_bit place)

-- in its word: this place alone
abbrev pub own_bit : ℕ → ℕ
own_bit place = 2 ^ place_bit place

-- in its word: this place and all above it
abbrev pub onward : ℕ → ℕ
onward place = 18446744073709551616 - 2 ^ place_bit place

-- a word that has all its places
abbrev pub full_word : ℕ
full_word = 18446744073709551615

-- the set with more places in one of its words
abbrev pub with_bits : List ℕ → ℕ → ℕ → List ℕ
with_bits set word more = slice_set set word (bit_or (slice_index set word) more)

-- the words above this one
abbrev pub words_above : ℕ → ℕ
words_above word = 256 - 2 ^ suc word

abbrev pub every_word : ℕ
every_word = 255

-- the words of both sets
abbrev pub with_words : ℕ → ℕ → ℕ
with_words set more = bit_or set more

abbrev pub IsWithin : ℕ → ℕ → Type 0
IsWithin set larger = (w : ℕ) → bit_at set w ≤ bit_at larger w

abbrev pub HasEvery : ℕ → Type 0
HasEvery set = (w : ℕ) → w < set_words → bit_at set w ≡ 1
