-- All that a writer gives of a line are bits.
use Rattle.std.proofs.Common.{ℕ, ◌-◌, ◌*◌, ◌/◌, ◌%◌, ◌^◌, ◌<◌, List, [], ◌∷◌, map, replicate, arith}
use Rattle.std.specs.Prelude.{Bool, true, false, if◌then◌else◌, nat_eq, nat_lt, not, ◌&&◌, unsigned_abs}
use Rattle.std.specs.Int.{is_negative}
use Rattle.std.specs.List.{flat_map, filter, list_all}
use Rattle.xs_lists.specs.Bits.{bit_of}
use Rattle.xs_lists.specs.Packing.{AreBits}
use Rattle.xs_lists.specs.Spelling.{upto, downto}
use Rattle.xs_lists.proofs.Walk.{all-append}
use Rattle.xs_lists.proofs.Bitwise.{join-are, replicate-are, bit_of-is}
use Rattle.xs_layout.specs.Geometry.{significance_groups_of}
use Rattle.xs_spelling.specs.Counts.{Line, has_flags, flag_bits, unary, is_insignificant}
use Rattle.xs_spelling.specs.Data.{columns_of, plane_bits, sign_bits}
use Rattle.xs_spelling.specs.Written.{members_of, written_flag, ones_of, count_bits, sign_of, group_bits, line_count_bits, line_data_bits}

pub map-are : (f : ℕ → ℕ) → ((x : ℕ) → f x < 2) → (xs : List ℕ) → AreBits (map f xs)
map-are f h [] = tt
map-are f h (x ∷ xs) = (h x, map-are f h xs)

pub flags-are : (line : Line) → AreBits (flag_bits line (written_flag line))
flags-are line = cases (has_flags line.mode)
  where
    cases : (flagged : Bool) → AreBits (if flagged then map (written_flag line) (upto (significance_groups_of line.groups)) else [])
    cases true = map-are (written_flag line) (λ j. bit_of-is (list_all (λ group. nat_eq (line.count group) (line.prediction group)) (members_of line j))) (upto (significance_groups_of line.groups))
    cases false = tt

pub unary-are : (n : ℕ) → AreBits (unary n)
unary-are n =
    let clear : 0 < 2 = omega arith in
    all-append (λ bit. bit < 2) (replicate n 1) (0 ∷ []) (replicate-are n 1 (omega arith)) (clear, tt)

count-are : (line : Line) (flag : ℕ → ℕ) (group : ℕ) → AreBits (count_bits line flag group)
count-are line flag group = cases (is_insignificant line flag group)
  where
    cases : (skipped : Bool) → AreBits (if skipped then [] else unary (ones_of (line.prediction group - line.truncation) (line.prediction group) (line.count group)))
    cases true = tt
    cases false = unary-are (ones_of (line.prediction group - line.truncation) (line.prediction group) (line.count group))

pub counts-are : (line : Line) (flag : ℕ → ℕ) → AreBits (line_count_bits false line flag)
counts-are line flag = join-are (count_bits line flag) (count-are line flag) (upto line.groups)

planes-are : (line : Line) (group plane : ℕ) → AreBits (plane_bits line group plane)
planes-are line group plane = map-are (λ column. unsigned_abs (line.value column) / 2 ^ (plane - line.truncation) % 2) (λ column. omega arith) (columns_of group)

group-are : (apart : Bool) (line : Line) (group : ℕ) → AreBits (group_bits apart line group)
group-are apart line group =
    all-append (λ bit. bit < 2) (signs (nat_lt line.truncation (line.count group) && not apart)) (flat_map (plane_bits line group) (downto (line.count group) line.truncation))
    (cases (nat_lt line.truncation (line.count group) && not apart)) (join-are (plane_bits line group) (planes-are line group) (downto (line.count group) line.truncation))
  where
    signs : Bool → List ℕ
    signs signed = if signed then map (sign_of line) (columns_of group) else []

    cases : (signed : Bool) → AreBits (signs signed)
    cases true = map-are (sign_of line) (λ column. bit_of-is (is_negative (line.value column))) (columns_of group)
    cases false = tt

pub data-are : (apart : Bool) (line : Line) → AreBits (line_data_bits apart line)
data-are apart line = join-are (group_bits apart line) (group-are apart line) (upto line.groups)

pub signs-are : (line : Line) → AreBits (sign_bits line)
signs-are line = map-are (λ column. bit_of (is_negative (line.value column))) (λ column. bit_of-is (is_negative (line.value column))) (filter (λ column. nat_lt 0 (unsigned_abs (line.value column))) (upto (4 * line.groups)))
