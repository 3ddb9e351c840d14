-- A line of a band on its way into a packet: what its counts are predicted from, its counts and its numbers.
use Rattle.std.specs.Prelude.{◌≡◌, ℕ, ◌-◌, ◌*◌, ◌/◌, ◌<◌, ◌≤◌, Bool, true, false, not, if◌then◌else◌, max, ℤ, pos, List, [], length, map, slice_index_or, All}
use Rattle.xs_bits.specs.Counts.{AreCounts}
use Rattle.xs_lists.specs.Spelling.{upto}
use Rattle.xs_layout.specs.declared.Candidate.{Candidate}
use Rattle.xs_layout.specs.declared.Quant.{Quant}
use Rattle.xs_layout.specs.Geometry.{groups_of}
use Rattle.xs_layout.specs.Weighting.{truncation_of}
use Rattle.xs_params.specs.Rows.{Rows}
use Rattle.xs_params.specs.declared.header.Header.{Header}
use Rattle.xs_params.specs.Geometry.{bands_of, band_width_of}
use Rattle.xs_signal.specs.Quantiser.{sent}
use Rattle.xs_spelling.specs.Counts.{Line, flag_bits, predicted, predicts_above}
use Rattle.xs_spelling.specs.Data.{sign_bits}
use Rattle.xs_spelling.specs.Sizes.{numbered}
use Rattle.xs_spelling.specs.Written.{line_count_bits, line_data_bits, written_flag}
use Rattle.xs_planes.specs.Numbers.{AreNumbers}
use Rattle.xs_grammar.specs.Precinct.{Content, coded_line, is_first_line, weight_of}
use Rattle.xs_rate.specs.Content.{planes_of}

pub record Outgoing : Type 0 where
  pub mode : ℕ
  pub cut : ℕ
  -- whether the slice has a line above, and its counts
  pub there : Bool
  pub above : List ℕ
  pub counts : List ℕ
  pub values : List ℤ

abbrev pub no_outgoing : Outgoing
no_outgoing = record { mode = 0; cut = 0; there = false; above = []; counts = []; values = [] }

-- each number of it is in range
pub record IsOutgoing (o : Outgoing) : Type 0 where
  pub mode : o.mode ≤ 3
  pub cut : o.cut ≤ 15
  pub few : length o.counts ≤ 2048
  pub above : length o.above ≡ length o.counts
  pub values : length o.values ≡ 4 * length o.counts
  pub least : All (λ count. o.cut ≤ count) o.counts
  pub range : AreCounts o.counts
  pub above_range : AreCounts o.above

-- the line by its counts, in a mode
abbrev pub line_counted : Outgoing → ℕ → Line
line_counted o mode = record {
  groups = length o.counts;
  mode = mode;
  truncation = o.cut;
  prediction = λ group. if predicts_above mode then (if o.there then predicted (slice_index_or o.above group 0) o.cut o.cut else o.cut) else o.cut;
  count = λ group. slice_index_or o.counts group 0;
  value = λ column. pos 0;
}

-- the bits that it gives to each part of a packet
abbrev pub own_flags : Outgoing → List ℕ
own_flags o = flag_bits (line_counted o o.mode) (written_flag (line_counted o o.mode))

abbrev pub own_counts : Outgoing → List ℕ
own_counts o = line_count_bits false (line_counted o o.mode) (written_flag (line_counted o o.mode))

abbrev pub own_data : Bool → Outgoing → List ℕ
own_data apart o = line_data_bits apart (numbered o.cut o.counts o.values)

abbrev pub own_signs : Bool → Outgoing → List ℕ
own_signs apart o = if apart then sign_bits (numbered o.cut o.counts o.values) else []

-- Lines of a content

-- the counts of a row of so many code groups, and its numbers, at a truncation
abbrev pub counts_cut : ℕ → (ℕ → ℤ) → ℕ → List ℕ
counts_cut cut row groups = map (λ group. max (planes_of row group) cut) (upto groups)

abbrev pub values_sent : Quant → ℕ → (ℕ → ℤ) → ℕ → List ℤ
values_sent kind cut row width = map (λ column. sent kind (planes_of row (column / 4)) cut (row column)) (upto width)

-- it gives the flags and the counts of a content's line in every mode
pub record AreCountsOut (h : Header) (content : Content) (band line : ℕ) (o : Outgoing) : Type 0 where
  pub flags : (mode : ℕ) → flag_bits (line_counted o mode) (written_flag (line_counted o mode)) ≡ flag_bits (coded_line h content mode band line) (written_flag (coded_line h content mode band line))
  pub counts : (mode : ℕ) → line_count_bits false (line_counted o mode) (written_flag (line_counted o mode)) ≡ line_count_bits false (coded_line h content mode band line) (written_flag (coded_line h content mode band line))

-- it gives all parts of a line
pub record IsSentAs (line : Line) (o : Outgoing) : Type 0 where
  pub flags : own_flags o ≡ flag_bits line (written_flag line)
  pub counts : own_counts o ≡ line_count_bits false line (written_flag line)
  pub planes : (apart : Bool) → own_data apart o ≡ line_data_bits apart line
  pub signs : own_signs true o ≡ sign_bits line
  pub numbers : AreNumbers o.cut o.counts o.values

-- what is held of a line of rows at a candidate
pub record IsCounted (h : Header) (rows : Rows) (candidate : Candidate) (band line : ℕ) (o : Outgoing) : Type 0 where
  pub cut : o.cut ≡ truncation_of candidate.q candidate.r (weight_of h band)
  pub counts : o.counts ≡ counts_cut o.cut (rows band line) (groups_of (band_width_of h band))
  pub there : o.there ≡ not (is_first_line h band line)
  pub above : o.there ≡ true → o.above ≡ counts_cut o.cut (rows band (line - 1)) (groups_of (band_width_of h band))

-- its numbers have room in their planes
abbrev pub HasNumbers : Outgoing → Type 0
HasNumbers o = AreNumbers o.cut o.counts o.values

-- a line of the same band, in the same mode
pub record IsAlike (old new : Outgoing) : Type 0 where
  pub mode : new.mode ≡ old.mode
  pub groups : length new.counts ≡ length old.counts

-- there is a line with room for each band
pub record HaveRoom (h : Header) (lines : List Outgoing) : Type 0 where
  pub count : length lines ≡ bands_of h
  pub groups : (band : ℕ) → band < bands_of h → length (slice_index_or lines band no_outgoing).counts ≡ groups_of (band_width_of h band)

-- and it has the band's mode
abbrev pub HaveModes : Header → (ℕ → ℕ) → List Outgoing → Type 0
HaveModes h mode lines = (band : ℕ) → band < bands_of h → (slice_index_or lines band no_outgoing).mode ≡ mode band
