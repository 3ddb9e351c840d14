-- What is written of rows of coefficients: counts and quantised numbers by 'Rate choice' and 'Quantisers'.
use Rattle.std.specs.Prelude.{ℕ, ◌/◌, ◌^◌, max, nat_le, ℤ, unsigned_abs, map, count_by}
use Rattle.std.specs.List.{fold}
use Rattle.xs_lists.specs.Spelling.{upto}
use Rattle.xs_layout.specs.declared.Candidate.{Candidate}
use Rattle.xs_layout.specs.Weighting.{truncation_of}
use Rattle.xs_params.specs.declared.header.Header.{Header}
use Rattle.xs_signal.specs.Quantiser.{sent}
use Rattle.xs_spelling.specs.Data.{columns_of}
use Rattle.xs_grammar.specs.Precinct.{Content, weight_of, precinct_of}
use Rattle.xs_rate.specs.Coefficients.{Rows}

-- the binary digits of a magnitude of at most 32767: how many of 1, 2, 4, .. are not over it
abbrev pub digits_of : ℕ → ℕ
digits_of magnitude = count_by (λ k. nat_le (2 ^ k) magnitude) (upto 15)

-- the greatest magnitude of a code group of a row
abbrev pub greatest_of : (ℕ → ℤ) → ℕ → ℕ
greatest_of row group = fold max 0 (map (λ column. unsigned_abs (row column)) (columns_of group))

-- how many bit planes a code group of a row has
abbrev pub planes_of : (ℕ → ℤ) → ℕ → ℕ
planes_of row group = digits_of (greatest_of row group)

-- how many of them a line leaves out
abbrev pub cut_of : Header → (ℕ → Candidate) → ℕ → ℕ → ℕ
cut_of h candidate band line = truncation_of (candidate (precinct_of h band line / h.hsl)).q (candidate (precinct_of h band line / h.hsl)).r (weight_of h band)

-- The content of a picture's slices, each at its candidate. The written count is never below the truncation; the quantiser works on the
-- planes that there are.
abbrev pub content_of : Header → Rows → (ℕ → Candidate) → Content
content_of h rows candidate = record {
  q = λ precinct. (candidate (precinct / h.hsl)).q;
  r = λ precinct. (candidate (precinct / h.hsl)).r;
  count = λ band line group. max (planes_of (rows band line) group) (cut_of h candidate band line);
  value = λ band line column. sent h.quant (planes_of (rows band line) (column / 4)) (cut_of h candidate band line) (rows band line column);
}
