-- Lines with the same counts and predictions have the same flags and count bits.
use Rattle.std.proofs.Common.{◌≡◌, ℕ, zero, suc, ◌+◌, ◌-◌, ◌*◌, ◌/◌, ◌<◌, ◌≤◌, min, List, [], map, length, get_or, refl, ap, ◌∙◌, arith}
use Rattle.std.specs.Prelude.{Bool, true, false, not, nat_eq, ◌&&◌, if◌then◌else◌, max, pos}
use Rattle.std.specs.List.{flat_map, list_all, range_with_len}
use Rattle.xs_lists.specs.Bits.{bit_of}
use Rattle.xs_lists.specs.Spelling.{upto}
use Rattle.xs_layout.specs.declared.Candidate.{Candidate}
use Rattle.xs_layout.specs.Geometry.{groups_of, significance_groups_of}
use Rattle.xs_params.specs.declared.header.Header.{Header}
use Rattle.xs_params.specs.Geometry.{band_width_of}
use Rattle.xs_signal.specs.Quantiser.{sent}
use Rattle.xs_spelling.specs.Counts.{Line, unary, has_flags, flag_bits, predicts_above, predicted}
use Rattle.xs_spelling.specs.Sizes.{SameNumbers, numbered}
use Rattle.xs_spelling.specs.Written.{ones_of, count_bits, written_flag, line_count_bits}
use Rattle.xs_spelling.proofs.Redata.{flat-range, map-range, data_by_numbers}
use Rattle.xs_grammar.specs.Precinct.{coded_line, is_first_line}
use Rattle.xs_rate.specs.Coefficients.{Rows}
use Rattle.xs_rate.specs.Content.{planes_of}
use Rattle.xs_rate.specs.Chosen.{content_at}
use Rattle.xs_planes.specs.Numbers.{AreNumbers}
use Rattle.xs_precinct_write.specs.Outgoing.{Outgoing, line_counted, values_sent, AreCountsOut, IsCounted, IsSentAs}
use Rattle.xs_precinct_write.proofs.Sending.{count_at, value_at, length_cut}

all_same : (f g : ℕ → Bool) (first n : ℕ) → ((i : ℕ) → first ≤ i → i < first + n → f i ≡ g i) → list_all f (range_with_len first n) ≡ list_all g (range_with_len first n)
all_same f g first zero same = refl
all_same f g first (suc n) same =
    ap (λ b. b && list_all f (range_with_len (first + 1) n)) (same first (omega arith) (omega arith))
    ∙ ap (λ b. g first && b) (all_same f g (first + 1) n (λ i low high. same i (omega (arith, low)) (omega (arith, high))))

-- two lines with the same counts under the same predictions, in the same mode
pub record SameCounts (line other : Line) : Type 0 where
  pub groups : line.groups ≡ other.groups
  pub truncation : line.truncation ≡ other.truncation
  pub mode : line.mode ≡ other.mode
  pub prediction : (group : ℕ) → group < line.groups → line.prediction group ≡ other.prediction group
  pub count : (group : ℕ) → group < line.groups → line.count group ≡ other.count group

flag_same : (line other : Line) (s : ℕ) → SameCounts line other → written_flag line s ≡ written_flag other s
flag_same line other s same =
    ap bit_of (all_same (λ group. nat_eq (line.count group) (line.prediction group)) (λ group. nat_eq (other.count group) (other.prediction group)) (8 * s) (min 8 (line.groups - 8 * s))
    (λ i low high. (let inside : i < line.groups = omega (arith, low, high) in
    ap (λ k. nat_eq k (line.prediction i)) (same.count i inside) ∙ ap (nat_eq (other.count i)) (same.prediction i inside)))
    ∙ ap (λ n. list_all (λ group. nat_eq (other.count group) (other.prediction group)) (range_with_len (8 * s) (min 8 (n - 8 * s)))) same.groups)

bits_same : (line other : Line) (group : ℕ) → group < line.groups → SameCounts line other → count_bits line (written_flag line) group ≡ count_bits other (written_flag other) group
bits_same line other group inside same =
    ap (λ m. if has_flags m && nat_eq (written_flag line (group / 8)) 1 then [] else own) same.mode
    ∙ ap (λ k. if has_flags other.mode && nat_eq k 1 then [] else own) (flag_same line other (group / 8) same)
    ∙ ap (λ l. if has_flags other.mode && nat_eq (written_flag other (group / 8)) 1 then [] else l) own_same
  where
    own : List ℕ
    own = unary (ones_of (line.prediction group - line.truncation) (line.prediction group) (line.count group))

    own_same : own ≡ unary (ones_of (other.prediction group - other.truncation) (other.prediction group) (other.count group))
    own_same =
        ap (λ t. unary (ones_of (line.prediction group - t) (line.prediction group) (line.count group))) same.truncation
        ∙ ap (λ m. unary (ones_of (m - other.truncation) m (line.count group))) (same.prediction group inside)
        ∙ ap (λ k. unary (ones_of (other.prediction group - other.truncation) (other.prediction group) k)) (same.count group inside)

pub counts_same : (line other : Line) → SameCounts line other → line_count_bits false line (written_flag line) ≡ line_count_bits false other (written_flag other)
counts_same line other same =
    flat-range (count_bits line (written_flag line)) (count_bits other (written_flag other)) 0 line.groups (λ i low high. bits_same line other i (omega (arith, high)) same)
    ∙ ap (λ n. flat_map (count_bits other (written_flag other)) (upto n)) same.groups

pub flags_same : (line other : Line) → SameCounts line other → flag_bits line (written_flag line) ≡ flag_bits other (written_flag other)
flags_same line other same =
    ap (λ m. if has_flags m then map (written_flag line) (upto (significance_groups_of line.groups)) else []) same.mode
    ∙ ap (λ n. if has_flags other.mode then map (written_flag line) (upto (significance_groups_of n)) else []) same.groups
    ∙ ap (λ l. if has_flags other.mode then l else []) (map-range (written_flag line) (written_flag other) 0 (significance_groups_of other.groups) (λ i low high. flag_same line other i same))

-- A line that was counted

predict_same : (pa there first : Bool) (a b t : ℕ) → there ≡ not first → (there ≡ true → a ≡ b) → (if pa then (if there then predicted a t t else t) else t) ≡ (if pa && not first then predicted b t t else t)
predict_same false there first a b t e same = refl
predict_same true true true a b t e same = absurd (cc e)
predict_same true true false a b t e same = ap (λ k. predicted k t t) (same refl)
predict_same true false true a b t e same = refl
predict_same true false false a b t e same = absurd (cc e)

pub lines_alike : (h : Header) (rows : Rows) (candidate : Candidate) (band line mode : ℕ) (o : Outgoing) → IsCounted h rows candidate band line o
    → SameCounts (line_counted o mode) (coded_line h (content_at h rows candidate) mode band line)
lines_alike h rows candidate band line mode o is = record {
  groups = size;
  truncation = is.cut;
  mode = refl;
  prediction = λ group inside.
      predict_same (predicts_above mode) o.there (is_first_line h band line) (get_or o.above group 0) (max (planes_of (rows band (line - 1)) group) o.cut) o.cut is.there
      (λ there. ap (λ l. get_or l group 0) (is.above there) ∙ count_at (rows band (line - 1)) o.cut (groups_of (band_width_of h band)) group (omega (arith, inside, size)))
      ∙ ap (λ t. if predicts_above mode && not (is_first_line h band line) then predicted (max (planes_of (rows band (line - 1)) group) t) t t else t) is.cut;
  count = λ group inside.
      ap (λ l. get_or l group 0) is.counts ∙ count_at (rows band line) o.cut (groups_of (band_width_of h band)) group (omega (arith, inside, size))
      ∙ ap (λ t. max (planes_of (rows band line) group) t) is.cut;
}
  where
    size : length o.counts ≡ groups_of (band_width_of h band)
    size = ap length is.counts ∙ length_cut (rows band line) o.cut (groups_of (band_width_of h band))

pub counts_out : (h : Header) (rows : Rows) (candidate : Candidate) (band line : ℕ) (o : Outgoing) → IsCounted h rows candidate band line o → AreCountsOut h (content_at h rows candidate) band line o
counts_out h rows candidate band line o is = record {
  flags = λ mode. flags_same (line_counted o mode) (coded_line h (content_at h rows candidate) mode band line) (lines_alike h rows candidate band line mode o is);
  counts = λ mode. counts_same (line_counted o mode) (coded_line h (content_at h rows candidate) mode band line) (lines_alike h rows candidate band line mode o is);
}

-- and quantised
numbers_alike : (h : Header) (rows : Rows) (candidate : Candidate) (band line mode : ℕ) (o : Outgoing) → IsCounted h rows candidate band line o
    → o.values ≡ values_sent h.quant o.cut (rows band line) (4 * length o.counts) → SameNumbers (numbered o.cut o.counts o.values) (coded_line h (content_at h rows candidate) mode band line)
numbers_alike h rows candidate band line mode o is values = record {
  groups = (lines_alike h rows candidate band line mode o is).groups;
  truncation = is.cut;
  count = (lines_alike h rows candidate band line mode o is).count;
  value = λ column inside.
      ap (λ l. get_or l column (pos 0)) values ∙ value_at h.quant (rows band line) o.cut (4 * length o.counts) column inside
      ∙ ap (λ t. sent h.quant (planes_of (rows band line) (column / 4)) t (rows band line column)) is.cut;
}

pub sent_as : (h : Header) (rows : Rows) (candidate : Candidate) (band line mode : ℕ) (o : Outgoing) → IsCounted h rows candidate band line o → o.mode ≡ mode
    → o.values ≡ values_sent h.quant o.cut (rows band line) (4 * length o.counts) → AreNumbers o.cut o.counts o.values → IsSentAs (coded_line h (content_at h rows candidate) mode band line) o
sent_as h rows candidate band line mode o is same values numbers = record {
  flags = ap (λ m. flag_bits (line_counted o m) (written_flag (line_counted o m))) same ∙ (counts_out h rows candidate band line o is).flags mode;
  counts = ap (λ m. line_count_bits false (line_counted o m) (written_flag (line_counted o m))) same ∙ (counts_out h rows candidate band line o is).counts mode;
  planes = λ apart. (data_by_numbers apart (numbered o.cut o.counts o.values) (coded_line h (content_at h rows candidate) mode band line) (numbers_alike h rows candidate band line mode o is values)).0;
  signs = (data_by_numbers true (numbered o.cut o.counts o.values) (coded_line h (content_at h rows candidate) mode band line) (numbers_alike h rows candidate band line mode o is values)).1;
  numbers = numbers;
}
