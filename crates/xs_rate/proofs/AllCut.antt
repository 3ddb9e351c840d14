-- All lengths in a slice have room in their fields where every plane is cut off.
use Rattle.std.proofs.Common.{◌≡◌, ℕ, zero, suc, ◌+◌, ◌-◌, ◌*◌, ◌^◌, ◌<◌, ◌≤◌, List, [], ◌∷◌, map, length, refl, sym, ap, ◌∙◌, arith}
use Rattle.std.specs.Prelude.{Bool, true, false, nat_lt, not, ◌&&◌, if◌then◌else◌}
use Rattle.std.specs.List.{flat_map, sum_by}
use Rattle.std.specs.Int.{is_negative}
use Rattle.xs_lists.specs.Bits.{bytes_for, bit_of}
use Rattle.xs_lists.specs.Packing.{packed}
use Rattle.xs_layout.specs.Geometry.{groups_of, PacketPlace}
use Rattle.xs_params.specs.declared.header.Header.{Header}
use Rattle.xs_spelling.specs.Counts.{Line, predicts_above, flag_bits}
use Rattle.xs_spelling.specs.Data.{sign_bits}
use Rattle.xs_spelling.specs.Written.{written_flag, line_count_bits, line_data_bits}
use Rattle.xs_spelling.proofs.Bounded.{join-most, flags-most}
use Rattle.xs_params.specs.Geometry.{band_width_of, packet_bands}
use Rattle.xs_grammar.specs.Precinct.{Content, line_truncation, is_first_line}
use Rattle.xs_grammar.specs.Coded.{packet_line}
use Rattle.std.specs.Prelude.{pos, unsigned_abs}
use Rattle.std.specs.List.{filter}
use Rattle.xs_lists.specs.Spelling.{upto}
use Rattle.xs_lists.proofs.Each.{range-all}
use Rattle.xs_spelling.specs.Counts.{unary, is_insignificant, predicted}
use Rattle.xs_spelling.specs.Written.{ones_of, count_bits, group_bits}
use Rattle.xs_spelling.proofs.Sized.{group-size}
use Rattle.std.proofs.lemmas.Bool.{ltb-true, leb-false}
use Rattle.std.proofs.lemmas.List.FromFn.{length-range_with_len}
use Rattle.std.specs.Prelude.{nat_le}
use Rattle.xs_rate.specs.Laws.{IsAllCut, AllCutFits}
use Rattle.xs_rate.proofs.Packets.{IsSmallPacket, part-size, slice-fits, sum-most}

-- A line of which every plane is cut off
record IsCutLine (line : Line) : Type 0 where
  counts : (group : ℕ) → line.count group ≡ line.prediction group
  planes : (group : ℕ) → line.count group ≡ line.truncation
  values : (column : ℕ) → line.value column ≡ pos 0

no-ones : (t m count : ℕ) → count ≡ m → ones_of t m count ≤ 0
no-ones t m count e = cases (nat_lt count m) (nat_le (count - m) t) refl refl
  where
    cases : (below near : Bool) → nat_lt count m ≡ below → nat_le (count - m) t ≡ near → (if below then 2 * (m - count) - 1 else if near then 2 * (count - m) else count - m + t) ≤ 0
    cases true near p q = omega (arith, e, ltb-true count m p)
    cases false true p q = omega (arith, e)
    cases false false p q = let far = leb-false (count - m) t q in omega (arith, e, far)

length-unary : (n : ℕ) → length (unary n) ≡ n + 1
length-unary zero = refl
length-unary (suc n) = omega (arith, length-unary n)

count-one : (line : Line) (flag : ℕ → ℕ) (group : ℕ) → IsCutLine line → length (count_bits line flag group) ≤ 1
count-one line flag group p = cases (is_insignificant line flag group)
  where
    ones : ℕ
    ones = ones_of (line.prediction group - line.truncation) (line.prediction group) (line.count group)

    cases : (skipped : Bool) → length (if skipped then [] else unary ones) ≤ 1
    cases true = omega arith
    cases false = omega (arith, length-unary ones, no-ones (line.prediction group - line.truncation) (line.prediction group) (line.count group) (p.counts group))

counts-few : (line : Line) (flag : ℕ → ℕ) → IsCutLine line → length (line_count_bits false line flag) ≤ line.groups * 1
counts-few line flag p =
    let all = range-all (λ group. length (count_bits line flag group) ≤ 1) 0 line.groups (λ group low high. count-one line flag group p) in
    omega (arith, join-most (count_bits line flag) 1 (upto line.groups) all, ap (λ n. n * 1) (length-range_with_len 0 line.groups))

group-none : (apart : Bool) (line : Line) (group : ℕ) → IsCutLine line → length (group_bits apart line group) ≤ 0
group-none apart line group p = omega (arith, group-size apart line group, cases (nat_lt line.truncation (line.count group)) refl)
  where
    cases : (some : Bool) → nat_lt line.truncation (line.count group) ≡ some → (if some then (if apart then 0 else 4) + 4 * (line.count group - line.truncation) else 0) ≡ 0
    cases true e = absurd (omega (arith, ltb-true line.truncation (line.count group) e, p.planes group))
    cases false e = refl

data-none : (apart : Bool) (line : Line) → IsCutLine line → length (line_data_bits apart line) ≤ line.groups * 0
data-none apart line p =
    let all = range-all (λ group. length (group_bits apart line group) ≤ 0) 0 line.groups (λ group low high. group-none apart line group p) in
    omega (arith, join-most (group_bits apart line) 0 (upto line.groups) all, ap (λ n. n * 0) (length-range_with_len 0 line.groups))

none-kept : {A : Type 0} (test : A → Bool) → ((x : A) → test x ≡ false) → (xs : List A) → filter test xs ≡ []
none-kept test h [] = refl
none-kept test h (x ∷ xs) = ap (λ (t : Bool). if t then x ∷ filter test xs else filter test xs) (h x) ∙ none-kept test h xs

signs-none : (line : Line) → IsCutLine line → sign_bits line ≡ []
signs-none line p = ap (map (λ column. bit_of (is_negative (line.value column)))) (none-kept (λ column. nat_lt 0 (unsigned_abs (line.value column))) (λ column. ap (λ z. nat_lt 0 (unsigned_abs z)) (p.values column)) (upto (4 * line.groups)))

cut_line : (h : Header) (content : Content) (mode : ℕ → ℕ) (place : PacketPlace) (band : ℕ) → IsAllCut h content → IsCutLine (packet_line h content mode place band)
cut_line h content mode place band p = record {
  counts = λ group. prediction group (predicts_above (mode band) && not (is_first_line h band place.line));
  planes = λ group. p.counts band place.line group ∙ sym (p.truncations band place.line);
  values = λ column. p.values band place.line column;
}
  where
    prediction : (group : ℕ) (above : Bool) → content.count band place.line group
        ≡ (if above then predicted (content.count band (place.line - 1) group) (line_truncation h content band (place.line - 1)) (line_truncation h content band place.line) else line_truncation h content band place.line)
    prediction group true = omega (arith, p.counts band place.line group, p.counts band (place.line - 1) group, p.truncations band (place.line - 1), p.truncations band place.line)
    prediction group false = p.counts band place.line group ∙ sym (p.truncations band place.line)

sizes : (h : Header) (content : Content) (mode : ℕ → ℕ) (place : PacketPlace) → h.long_heads ≡ false → IsAllCut h content
    → sum_by (λ band. groups_of (band_width_of h band)) (packet_bands h place) ≤ 6157 → IsSmallPacket h (packet_bands h place) (packet_line h content mode place)
sizes h content mode place short range narrow = record {
  counts = omega (arith, part-size counts bands, all_counts, narrow);
  numbers = omega (arith, part-size numbers bands, all_numbers, narrow);
  signs = apart h.signs_apart;
  whole = total h.signs_apart h.long_heads short;
}
  where
    bands : List ℕ
    bands = packet_bands h place

    line : ℕ → Line
    line = packet_line h content mode place

    width : ℕ → ℕ
    width band = groups_of (band_width_of h band)

    counts : ℕ → List ℕ
    counts band = line_count_bits false (line band) (written_flag (line band))

    numbers : ℕ → List ℕ
    numbers band = line_data_bits h.signs_apart (line band)

    cut : (band : ℕ) → IsCutLine (line band)
    cut band = cut_line h content mode place band range

    all_counts : sum_by (λ band. length (counts band)) bands ≤ sum_by width bands * 1
    all_counts = sum-most (λ band. length (counts band)) width 1 (λ band. counts-few (line band) (written_flag (line band)) (cut band)) bands

    all_numbers : sum_by (λ band. length (numbers band)) bands ≤ sum_by width bands * 0
    all_numbers = sum-most (λ band. length (numbers band)) width 0 (λ band. data-none h.signs_apart (line band) (cut band)) bands

    all_signs : sum_by (λ band. length (sign_bits (line band))) bands ≤ sum_by width bands * 0
    all_signs = sum-most (λ band. length (sign_bits (line band))) width 0 (λ band. omega (arith, ap length (signs-none (line band) (cut band)))) bands

    all_flags : sum_by (λ band. length (flag_bits (line band) (written_flag (line band)))) bands ≤ sum_by width bands * 1
    all_flags = sum-most (λ band. length (flag_bits (line band) (written_flag (line band)))) width 1 (λ band. omega (arith, flags-most (line band) (written_flag (line band)))) bands

    apart : (test : Bool) → length (if test then packed (flat_map (λ band. sign_bits (line band)) bands) else []) < 2 ^ 11
    apart true = omega (arith, part-size (λ band. sign_bits (line band)) bands, all_signs, narrow)
    apart false = omega arith

    total : (test long : Bool) → long ≡ false → (if long then 7 else 5)
        + bytes_for (sum_by (λ band. length (flag_bits (line band) (written_flag (line band)))) bands)
        + bytes_for (sum_by (λ band. length (counts band)) bands)
        + bytes_for (sum_by (λ band. length (numbers band)) bands)
        + (if test then bytes_for (sum_by (λ band. length (sign_bits (line band))) bands) else 0) ≤ 2 ^ 20
    total true true e = omega (arith, all_flags, all_counts, all_numbers, all_signs, narrow)
    total true false e = omega (arith, all_flags, all_counts, all_numbers, all_signs, narrow)
    total false true e = omega (arith, all_flags, all_counts, all_numbers, narrow)
    total false false e = omega (arith, all_flags, all_counts, all_numbers, narrow)

pub all_cut_fits : AllCutFits
all_cut_fits h content mode slice short few narrow cut = slice-fits h content mode slice short few (λ precinct place there. sizes h content (mode precinct) place short cut (narrow precinct place there))
