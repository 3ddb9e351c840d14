-- A line of a band as the calls of this crate are given it: by what its counts are predicted from, its mode, and its counts or how many there are.
use Rattle.std.specs.Prelude.{◌≡◌, ℕ, ◌+◌, ◌-◌, ◌≤◌, Bool, false, nat_eq, ◌&&◌, if◌then◌else◌, pos, ⊤, MatchOption, None, Some, List, length, slice_index_or}
use Rattle.xs_lists.specs.Bits.{bit_of}
use Rattle.xs_spelling.specs.Counts.{Line, predicts_above, predicted, unary, has_flags}
use Rattle.xs_spelling.specs.Written.{ones_of}
use Rattle.xs_spelling.specs.Reading.{with_counts}
use Rattle.xs_counts.specs.declared.predictor.Predictor.{Predictor}

-- what a code group is predicted to be where the mode predicts from the line above
abbrev pub prediction_above : Predictor → ℕ → ℕ
prediction_above p group = elim p.above [ None ↦ p.t | Some above ↦ predicted (slice_index_or above.now group 0) p.above_t p.t ]

-- a line of so many code groups before its counts are known
abbrev pub known_line : ℕ → Predictor → ℕ → Line
known_line groups p mode = record {
  groups = groups;
  mode = mode;
  truncation = p.t;
  prediction = λ group. if predicts_above mode then prediction_above p group else p.t;
  count = λ group. 0;
  value = λ column. pos 0;
}

-- the line of some counts
abbrev pub counted_line : List ℕ → Predictor → ℕ → Line
counted_line counts p mode = with_counts (known_line (length counts) p mode) counts

-- the ones, the bits and the size of a count that its flag does not leave out
abbrev pub residual_ones_of : Line → ℕ → ℕ
residual_ones_of line group = ones_of (line.prediction group - line.truncation) (line.prediction group) (line.count group)

abbrev pub residual_bits_of : Line → ℕ → List ℕ
residual_bits_of line group = unary (residual_ones_of line group)

abbrev pub residual_size : Line → ℕ → ℕ
residual_size line group = residual_ones_of line group + 1

-- the predictor is of a line of so many code groups: its truncations are in range, and the line above has as many counts
pub record IsPredictor (groups : ℕ) (p : Predictor) : Type 0 where
  pub t : p.t ≤ 15
  pub above_t : p.above_t ≤ 15
  pub above : MatchOption p.above ⊤ (λ above. length above.now ≡ groups)

-- flags by significance group
abbrev pub flag_of : List Bool → ℕ → ℕ
flag_of flags significance = bit_of (slice_index_or flags significance false)

-- whether a flag leaves out the counts of its significance group
abbrev pub is_skipped : Line → (ℕ → ℕ) → ℕ → Bool
is_skipped line flag significance = has_flags line.mode && nat_eq (flag significance) 1
