-- The bits that a writer gives of a line, where 'Bit-plane counts' and 'Truncation, data and signs' leave a choice: a function for each relation. Sizes are their lengths.
use Rattle.std.specs.Prelude.{ℕ, ◌+◌, ◌-◌, ◌*◌, ◌^◌, Bool, not, ◌&&◌, nat_eq, nat_lt, nat_le, if◌then◌else◌, min, ◌≤◌, unsigned_abs, List, [], ◌++◌, map}
use Rattle.std.specs.Int.{is_negative}
use Rattle.std.specs.List.{range_with_len, flat_map, list_all}
use Rattle.xs_lists.specs.Bits.{bits_of, bit_of}
use Rattle.xs_lists.specs.Spelling.{upto, downto}
use Rattle.xs_spelling.specs.Counts.{Line, unary, is_insignificant, unspelled_count}
use Rattle.xs_spelling.specs.Data.{columns_of, plane_bits}

-- Counts

-- how many ones move a count from its prediction m, where it can fall by t
abbrev pub ones_of : ℕ → ℕ → ℕ → ℕ
ones_of t m count =
    if nat_lt count m then 2 * (m - count) - 1
    else if nat_le (count - m) t then 2 * (count - m)
    else count - m + t

-- the bits of the count of a code group
abbrev pub count_bits : Line → (ℕ → ℕ) → ℕ → List ℕ
count_bits line flag group =
    if is_insignificant line flag group then []
    else unary (ones_of (line.prediction group - line.truncation) (line.prediction group) (line.count group))

-- a count that has bits: it is in range; it is the unspelled one, or neither it nor its prediction is below the truncation
abbrev pub has_bits : ℕ → Line → (ℕ → ℕ) → ℕ → Bool
has_bits run_mode line flag group =
    nat_le (line.count group) 15
    && (if is_insignificant line flag group then nat_eq (line.count group) (unspelled_count run_mode line group)
    else nat_le line.truncation (line.prediction group) && nat_le line.truncation (line.count group))

-- the code groups of a significance group of a line
abbrev pub members_of : Line → ℕ → List ℕ
members_of line significance = range_with_len (8 * significance) (min 8 (line.groups - 8 * significance))

-- the flag that a writer gives: it is set exactly where all residuals of the significance group are 0
abbrev pub written_flag : Line → ℕ → ℕ
written_flag line significance = bit_of (list_all (λ group. nat_eq (line.count group) (line.prediction group)) (members_of line significance))

-- the count of a code group can be written: it is in range, and neither it nor its prediction is below the truncation
pub record IsWritableCount (line : Line) (group : ℕ) : Type 0 where
  pub most : line.count group ≤ 15
  pub cut : line.truncation ≤ line.count group
  pub predicted : line.truncation ≤ line.prediction group

-- Numbers

-- a clear bit for 0
abbrev pub sign_of : Line → ℕ → ℕ
sign_of line column = bit_of (is_negative (line.value column))

-- the bits of the numbers of a code group
abbrev pub group_bits : Bool → Line → ℕ → List ℕ
group_bits apart line group =
    (if nat_lt line.truncation (line.count group) && not apart then map (sign_of line) (columns_of group) else [])
    ++ flat_map (plane_bits line group) (downto (line.count group) line.truncation)

-- the magnitudes of a code group have room in its planes
abbrev pub is_small : Line → ℕ → ℕ → Bool
is_small line group column = nat_lt (unsigned_abs (line.value column)) (2 ^ (line.count group - line.truncation))

-- Lines

-- the bits of the counts of a line, coded or raw, and whether it has them
abbrev pub line_count_bits : Bool → Line → (ℕ → ℕ) → List ℕ
line_count_bits raw line flag =
    if raw then flat_map (λ group. bits_of 4 (line.count group)) (upto line.groups)
    else flat_map (count_bits line flag) (upto line.groups)

abbrev pub has_line_bits : Bool → ℕ → Line → (ℕ → ℕ) → Bool
has_line_bits raw run_mode line flag =
    if raw then list_all (λ group. nat_le (line.count group) 15) (upto line.groups)
    else list_all (has_bits run_mode line flag) (upto line.groups)

-- the bits of the numbers of a line, and whether they have room
abbrev pub line_data_bits : Bool → Line → List ℕ
line_data_bits apart line = flat_map (group_bits apart line) (upto line.groups)

abbrev pub has_small_data : Line → Bool
has_small_data line = list_all (λ group. list_all (is_small line group) (columns_of group)) (upto line.groups)
