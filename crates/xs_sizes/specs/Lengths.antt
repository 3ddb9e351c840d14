-- The bits of a line's counts by the bit planes of its code groups and of those above, at each truncation.
use Rattle.std.specs.Prelude.{◌≡◌, ℕ, ◌+◌, ◌-◌, ◌*◌, ◌≤◌, max, pos, List, [], length, slice_index_or}
use Rattle.std.specs.List.{range_with_len, sum_by}
use Rattle.xs_counts.specs.Known.{residual_size}
use Rattle.xs_spelling.specs.Counts.{Line}
use Rattle.xs_spelling.specs.Sizes.{count_size}
use Rattle.xs_spelling.specs.Written.{ones_of}

-- the bits of the count of a code group of so many planes, under one of `above` planes
abbrev pub length_of : ℕ → ℕ → ℕ → ℕ
length_of above planes t = ones_of (max above t - t) (max above t) (max planes t) + 1

-- they stand for each truncation in a row, and the rows of all pairs of planes above and planes in a table
pub record AreLengths (table : List (List ℕ)) : Type 0 where
  pub size : length table ≡ 256
  pub rows : (above planes t : ℕ) → above ≤ 15 → planes ≤ 15 → t ≤ 15 → slice_index_or (slice_index_or table (16 * above + planes) []) t 0 ≡ length_of above planes t

-- a line whose counts are predicted from planes above it; where there are none above, as in no list, each count is predicted to be the truncation
abbrev pub plain_line : List ℕ → List ℕ → ℕ → ℕ → Line
plain_line above planes t mode = record {
  groups = length planes;
  mode = mode;
  truncation = t;
  prediction = λ group. max (slice_index_or above group 0) t;
  count = λ group. max (slice_index_or planes group 0) t;
  value = λ column. pos 0;
}

-- the bits of its counts in a mode at each truncation
abbrev pub AreCountSizes : List ℕ → List ℕ → ℕ → List ℕ → Type 0
AreCountSizes above planes mode sizes = (t : ℕ) → t ≤ 15 → slice_index_or sizes t 0 ≡ count_size (plain_line above planes t mode)

-- the bits of the counts of some code groups of it from a first one on, and few
pub record AreMemberBits (above planes : List ℕ) (first count : ℕ) (bits : List ℕ) : Type 0 where
  pub size : (t : ℕ) → t ≤ 15 → slice_index_or bits t 0 ≡ sum_by (residual_size (plain_line above planes t 0)) (range_with_len first count)
  pub few : (t : ℕ) → t ≤ 15 → slice_index_or bits t 0 ≤ 240
