-- The numbers of a line as the calls of this crate are given them: four for each code group.
use Rattle.std.specs.Prelude.{◌≡◌, ℕ, zero, suc, ◌+◌, ◌-◌, ◌*◌, ◌/◌, ◌%◌, ◌^◌, ◌<◌, ◌≤◌, Bool, true, false, nat_eq, nat_lt, if◌then◌else◌, ℤ, pos, ◌-ℤ◌, unsigned_abs, List, [], map, length, slice_index_or, slice_set}
use Rattle.std.specs.Int.{is_negative}
use Rattle.std.specs.List.{flat_map, list_all}
use Rattle.xs_lists.specs.Bits.{bits_of, bit_of}
use Rattle.xs_lists.specs.Packing.{number_of}
use Rattle.xs_lists.specs.Spelling.{upto}
use Rattle.xs_spelling.specs.Data.{columns_of}
use Rattle.xs_spelling.specs.Sizes.{numbered}
use Rattle.xs_spelling.specs.Reading.{bit_at, signed, value_in, with_signs}

-- there are four numbers for each count, and each has room in its planes
pub record AreNumbers (cut : ℕ) (counts : List ℕ) (values : List ℤ) : Type 0 where
  pub most : cut ≤ 15
  pub size : length values ≡ 4 * length counts
  pub small : (column : ℕ) → column < length values → unsigned_abs (slice_index_or values column (pos 0)) < 2 ^ (slice_index_or counts (column / 4) 0 - cut)

-- none is negative
abbrev pub AreMagnitudes : List ℤ → Type 0
AreMagnitudes values = (column : ℕ) → column < length values → is_negative (slice_index_or values column (pos 0)) ≡ false

-- the numbers that the bits begin with
abbrev pub numbers_in : Bool → ℕ → List ℕ → List ℕ → List ℤ
numbers_in apart truncation counts bits = map (value_in apart (numbered truncation counts []) bits) (upto (4 * length counts))

-- magnitudes with the signs that the bits begin with
abbrev pub signed_in : ℕ → List ℕ → List ℤ → List ℕ → List ℤ
signed_in truncation counts values bits = map (with_signs (numbered truncation counts values) bits).value (upto (4 * length counts))

-- A code group

-- how many bits one with this count has
abbrev pub size_by_count : Bool → ℕ → ℕ → ℕ
size_by_count apart truncation count = if nat_lt truncation count then (if apart then 0 else 4) + 4 * (count - truncation) else 0

-- its numbers
abbrev pub four_at : List ℤ → ℕ → List ℤ
four_at values group = map (λ column. slice_index_or values column (pos 0)) (columns_of group)

-- their signs, unless they stand apart, and one bit of each
abbrev pub signs_with : Bool → List ℤ → List ℕ
signs_with apart numbers = if apart then [] else map (λ z. bit_of (is_negative z)) numbers

abbrev pub level_of : List ℤ → ℕ → List ℕ
level_of numbers level = map (λ z. unsigned_abs z / 2 ^ level % 2) numbers

-- so many planes, from the highest down
abbrev pub bit_planes_of : List ℤ → ℕ → List ℕ
bit_planes_of numbers planes = flat_map (λ i. level_of numbers (planes - (i + 1))) (upto planes)

-- a magnitude of so many planes, of those that the bits begin with, and the number at one of the four columns
abbrev pub magnitude_at : ℕ → List ℕ → ℕ → ℕ
magnitude_at planes bits column = number_of (map (λ plane. bit_at bits (4 * plane + column)) (upto planes))

abbrev pub group_number : Bool → ℕ → List ℕ → ℕ → ℤ
group_number apart planes bits column =
    if apart then pos (magnitude_at planes bits column) else signed (nat_eq (bit_at bits column) 1) (number_of (map (λ plane. bit_at bits (4 + 4 * plane + column)) (upto planes)))

-- four numbers put in their places
abbrev pub put_four : List ℤ → ℕ → (ℕ → ℤ) → List ℤ
put_four into first number = slice_set (slice_set (slice_set (slice_set into first (number 0)) (first + 1) (number 1)) (first + 2) (number 2)) (first + 3) (number 3)

-- the low bits of a number, bit k at bit 4 k
abbrev pub spread_to : ℕ → ℕ → ℕ
spread_to zero number = 0
spread_to (suc n) number = number / 2 ^ n % 2 * 2 ^ (4 * n) + spread_to n number

-- a number of so many planes as it is coded: its planes so, and its sign above them
abbrev pub code_of : ℕ → ℤ → ℕ
code_of planes z = bit_of (is_negative z) * 2 ^ (4 * planes) + spread_to planes (unsigned_abs z)

-- a table of such codes of seven planes, each at 128 places after its number, and of magnitudes of eight
pub record AreCodes (table : List ℕ) : Type 0 where
  pub numbers : list_all (λ index. nat_eq (slice_index_or table index 0) (code_of 7 (pos index -ℤ pos 128))) (upto 256) ≡ true
  pub bytes : list_all (λ byte. nat_eq (slice_index_or table (byte + 128) 0) (spread_to 8 byte)) (upto 256) ≡ true

-- two numbers whose bits are the signs and the planes of four
pub record AreParts (numbers : List ℤ) (planes signs low : ℕ) : Type 0 where
  pub signed : bits_of 4 signs ≡ map (λ z. bit_of (is_negative z)) numbers
  pub nibble : signs < 16
  pub spelled : bits_of (4 * planes) low ≡ bit_planes_of numbers planes
  pub small : low < 2 ^ (4 * planes)

-- one of the four columns of so many nibbles, as a number
abbrev pub column_in : ℕ → ℕ → ℕ → ℕ
column_in zero number column = 0
column_in (suc n) number column = 2 * column_in n (number / 16) column + number / 2 ^ (3 - column) % 2

-- four numbers of 16 bits in one, the first lowest
abbrev pub lanes_of : (ℕ → ℕ) → ℕ
lanes_of value = value 0 + value 1 * 2 ^ 16 + value 2 * 2 ^ 32 + value 3 * 2 ^ 48

-- a table of the columns of all bytes
abbrev pub AreLanes : List ℕ → Type 0
AreLanes table = list_all (λ byte. nat_eq (slice_index_or table byte 0) (lanes_of (column_in 2 byte))) (upto 256) ≡ true

-- the numbers that stand in a word of four, 2 ^ 15 above their own
abbrev pub lane_at : ℕ → ℕ → ℤ
lane_at word column = pos (word / 2 ^ (16 * column) % 2 ^ 16) -ℤ pos (2 ^ 15)
