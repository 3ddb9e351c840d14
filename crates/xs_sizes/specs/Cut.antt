-- The lines of a slice with some of their lowest planes cut off, and their sizes.
use Rattle.std.specs.Prelude.{◌≡◌, ℕ, ◌-◌, ◌/◌, ◌<◌, max, Bool, true, not, ◌&&◌, if◌then◌else◌, ℤ, List, slice_index_or}
use Rattle.xs_layout.specs.Geometry.{groups_of}
use Rattle.xs_layout.specs.declared.Quant.{Quant}
use Rattle.xs_layout.specs.declared.Quant.TheVariants.{DeadZone, Uniform}
use Rattle.xs_params.specs.declared.header.Header.{Header}
use Rattle.xs_params.specs.Rows.{Rows}
use Rattle.xs_params.specs.Geometry.{band_width_of}
use Rattle.xs_signal.specs.Quantiser.{sent}
use Rattle.xs_spelling.specs.Counts.{Line, predicts_above, predicted}
use Rattle.xs_spelling.specs.Sizes.{count_size, data_size, signs_size}
use Rattle.xs_grammar.specs.Precinct.{is_first_line}
use Rattle.xs_rate.specs.Content.{planes_of}

-- the planes above a code group where the mode counts them: those of the line above, none above the slice's first line
abbrev pub planes_above : Header → Rows → ℕ → ℕ → ℕ → ℕ
planes_above h rows band line group = if is_first_line h band line then 0 else planes_of (rows band (line - 1)) group

-- a line with t planes cut off, as a candidate codes it whose truncation in the band this is
abbrev pub cut_line : Header → Quant → Rows → ℕ → ℕ → ℕ → ℕ → Line
cut_line h kind rows t mode band line = record {
  groups = groups_of (band_width_of h band);
  mode = mode;
  truncation = t;
  prediction = λ group. if predicts_above mode && not (is_first_line h band line) then predicted (max (planes_of (rows band (line - 1)) group) t) t t else t;
  count = λ group. max (planes_of (rows band line) group) t;
  value = λ column. sent kind (planes_of (rows band line) (column / 4)) t (rows band line column);
}

-- its numbers alone
abbrev pub sent_line : Quant → (ℕ → ℤ) → ℕ → ℕ → Line
sent_line kind row groups t = record {
  groups = groups;
  mode = 0;
  truncation = t;
  prediction = λ group. t;
  count = λ group. max (planes_of row group) t;
  value = λ column. sent kind (planes_of row (column / 4)) t (row column);
}

-- the bits of a line with some planes cut off: its counts in each mode, its numbers with their signs and without, and the signs apart for each quantiser
pub record CutSizes : Type 0 where
  pub counts : List ℕ
  pub data_in : ℕ
  pub data_apart : ℕ
  pub dead_zone : ℕ
  pub uniform : ℕ

-- the signs that stand apart
abbrev pub signs_of : Quant → CutSizes → ℕ
signs_of DeadZone sizes = sizes.dead_zone
signs_of Uniform sizes = sizes.uniform

-- they are those of a line: those of the counts in each mode, of the numbers with signs and without, and of signs apart where they were counted
pub record AreCutSizes (h : Header) (rows : Rows) (with_signs : Bool) (t band line : ℕ) (sizes : CutSizes) : Type 0 where
  pub counts : (kind : Quant) (mode : ℕ) → mode < 4 → slice_index_or sizes.counts mode 0 ≡ count_size (cut_line h kind rows t mode band line)
  pub numbers : (kind : Quant) (mode : ℕ) (apart : Bool) → (if apart then sizes.data_apart else sizes.data_in) ≡ data_size apart (cut_line h kind rows t mode band line)
  pub dead_zone : with_signs ≡ true → (mode : ℕ) → sizes.dead_zone ≡ signs_size (cut_line h DeadZone rows t mode band line)
  pub uniform : with_signs ≡ true → (mode : ℕ) → sizes.uniform ≡ signs_size (cut_line h Uniform rows t mode band line)
