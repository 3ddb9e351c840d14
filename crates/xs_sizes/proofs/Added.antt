-- The sizes of a line at each truncation, and those of the lines of a band.
use Rattle.std.proofs.Common.{◌≡◌, ℕ, zero, suc, ◌+◌, ◌-◌, ◌*◌, ◌%◌, ◌<◌, ◌≤◌, List, [], ◌∷◌, ◌++◌, map, length, sum_by, get_or, refl, sym, ap, subst, ◌∙◌, arith, inl, inr, length-append}
use Rattle.std.specs.Prelude.{Bool, true, false, max, not, nat_eq, ◌&&◌, if◌then◌else◌}
use Rattle.std.proofs.lemmas.Bool.{cases_eq, eq-eqb, ne_eqb}
use Rattle.std.proofs.lemmas.List.{get_or_append_left}
use Rattle.std.proofs.Math.Seq.{get_or-append_seam}
use Rattle.std.proofs.lemmas.List.FromFn.{get_or-map-range_with_len, length-map-range_with_len}
use Rattle.std.proofs.lemmas.Nat.{mod-mul-add}
use Rattle.xs_lists.specs.Spelling.{upto}
use Rattle.xs_layout.specs.Geometry.{groups_of}
use Rattle.xs_layout.specs.declared.Quant.{Quant}
use Rattle.xs_layout.specs.declared.Quant.TheVariants.{DeadZone, Uniform}
use Rattle.xs_params.specs.declared.header.Header.{Header}
use Rattle.xs_params.specs.Rows.{Rows}
use Rattle.xs_params.specs.Geometry.{band_width_of, bands_of}
use Rattle.xs_spelling.specs.Counts.{predicts_above, predicted, has_flags}
use Rattle.xs_spelling.specs.Sizes.{count_size, signs_size}
use Rattle.xs_grammar.specs.Precinct.{is_first_line}
use Rattle.xs_geometry.specs.SliceLines.{BandLines, HasLine, AreLinesOf, lines_at, rows_held, slice_height}
use Rattle.xs_rate.specs.Content.{planes_of}
use Rattle.xs_groups.proofs.Planes.{planes_most}
use Rattle.xs_sizes.specs.Lengths.{plain_line}
use Rattle.xs_sizes.specs.Cut.{cut_line, sent_line, planes_above, AreCutSizes}
use Rattle.xs_sizes.specs.Counted.{AreBandSizes, cut_at, line_in, no_line}
use Rattle.xs_sizes.specs.LineSizes.{AreLineSizes, AreAdded, AreRegular, cut_sizes_at, next_of}
use Rattle.xs_sizes.specs.declared.line.LineSizes.{LineSizes}
use Rattle.xs_sizes.proofs.Same.{SameCoded, count_size_same}
use Rattle.xs_sizes.proofs.Plain.{left_sum, number_size, alone_size, sum_range, apart_sum, in_sum, left_least, left_falls, left_all, length_upto}

-- what is known of a line that is counted
record IsCounting (h : Header) (rows : Rows) (band line : ℕ) (above planes : List ℕ) : Type 0 where
  size : length planes ≡ groups_of (band_width_of h band)
  own : (group : ℕ) → group < length planes → get_or planes group 0 ≡ planes_of (rows band line) group
  under : (group : ℕ) → group < length planes → get_or above group 0 ≡ planes_above h rows band line group

-- Counts

same_prediction : (x a t : ℕ) (predicts first : Bool) → x ≡ (if predicts then (if first then 0 else a) else 0) → max x t ≡ (if predicts && not first then predicted (max a t) t t else t)
same_prediction x a t true true e = omega (arith, e)
same_prediction x a t true false e = omega (arith, e)
same_prediction x a t false first e = omega (arith, e)

same_cut : (h : Header) (rows : Rows) (band line t mode plain : ℕ) (kind : Quant) (under planes : List ℕ) → length planes ≡ groups_of (band_width_of h band) → has_flags plain ≡ has_flags mode
    → ((group : ℕ) → group < length planes → get_or planes group 0 ≡ planes_of (rows band line) group)
    → ((group : ℕ) → group < length planes → get_or under group 0 ≡ (if predicts_above mode then planes_above h rows band line group else 0))
    → SameCoded (plain_line under planes t plain) (cut_line h kind rows t mode band line)
same_cut h rows band line t mode plain kind under planes groups flags counts predictions = record {
  groups = groups;
  truncation = refl;
  flags = flags;
  prediction = λ group inside. same_prediction (get_or under group 0) (planes_of (rows band (line - 1)) group) t (predicts_above mode) (is_first_line h band line) (predictions group inside);
  count = λ group inside. ap (λ p. max p t) (counts group inside);
}

counts_are : (h : Header) (rows : Rows) (band line t : ℕ) (signs : Bool) (above planes : List ℕ) (sizes : LineSizes) → t ≤ 15 → IsCounting h rows band line above planes
    → AreLineSizes above planes (rows band line) signs sizes → (kind : Quant) (mode : ℕ) → mode < 4 → get_or (cut_sizes_at sizes t).counts mode 0 ≡ count_size (cut_line h kind rows t mode band line)
counts_are h rows band line t signs above planes sizes le known are kind zero few =
    are.plain t le ∙ count_size_same _ _ (same_cut h rows band line t 0 0 kind [] planes known.size refl known.own (λ group inside. refl))
counts_are h rows band line t signs above planes sizes le known are kind (suc zero) few =
    are.predicted t le ∙ count_size_same _ _ (same_cut h rows band line t 1 0 kind above planes known.size refl known.own known.under)
counts_are h rows band line t signs above planes sizes le known are kind (suc (suc zero)) few =
    are.plain_kept t le ∙ count_size_same _ _ (same_cut h rows band line t 2 2 kind [] planes known.size refl known.own (λ group inside. refl))
counts_are h rows band line t signs above planes sizes le known are kind (suc (suc (suc zero))) few =
    are.predicted_kept t le ∙ count_size_same _ _ (same_cut h rows band line t 3 2 kind above planes known.size refl known.own known.under)
counts_are h rows band line t signs above planes sizes le known are kind (suc (suc (suc (suc mode)))) few = absurd (omega (arith, few))

-- Numbers

numbers_are : (h : Header) (rows : Rows) (band line t : ℕ) (signs : Bool) (above planes : List ℕ) (sizes : LineSizes) → t ≤ 15 → IsCounting h rows band line above planes
    → AreLineSizes above planes (rows band line) signs sizes → (apart : Bool)
    → (if apart then (cut_sizes_at sizes t).data_apart else (cut_sizes_at sizes t).data_in) ≡ sum_by (number_size apart (planes_of (rows band line)) t) (upto (length planes))
numbers_are h rows band line t signs above planes sizes le known are = cases
  where
    p : ℕ → ℕ
    p = planes_of (rows band line)

    few : (g : ℕ) → p g ≤ 15
    few g = planes_most (rows band line) g

    at : (t : ℕ) → t ≤ 15 → get_or sizes.plain.all t 0 ≡ left_sum p t (upto (length planes))
    at t le = alone_size above planes (rows band line) signs sizes t le are
        ∙ sum_range (λ group. max (get_or planes group 0) t - t + 1) (λ group. max (p group) t - t + 1) 0 (length planes) (λ i inside. ap (λ k. max k t - t + 1) (known.own i (omega (arith, inside))))

    next : (t : ℕ) → t ≤ 15 → next_of sizes t ≡ left_sum p (t + 1) (upto (length planes))
    next t le = elim (cases_eq t 15) [
      | inl last ↦
          let past : left_sum p (t + 1) (upto (length planes)) ≡ length planes =
          (let falls = left_falls p t (upto (length planes)) in let all : left_sum p t (upto (length planes)) ≡ length (upto (length planes)) = ap (λ k. left_sum p k (upto (length planes))) last ∙ left_all p (upto (length planes)) few in
          omega (arith, falls, all, left_least p (t + 1) (upto (length planes)), length_upto (length planes))) in
          ap (λ (b : Bool). if b then sizes.groups else get_or sizes.plain.all (t + 1) 0) (eq-eqb t 15 last) ∙ are.groups ∙ sym past
      | inr more ↦ ap (λ (b : Bool). if b then sizes.groups else get_or sizes.plain.all (t + 1) 0) (ne_eqb t 15 more) ∙ at (t + 1) (omega (arith, le, more))
    ]

    cases : (apart : Bool) → (if apart then (cut_sizes_at sizes t).data_apart else (cut_sizes_at sizes t).data_in) ≡ sum_by (number_size apart p t) (upto (length planes))
    cases true = omega (arith, at t le, are.groups, apart_sum p t (upto (length planes)), length_upto (length planes))
    cases false = omega (arith, at t le, next t le, are.groups, in_sum p t (upto (length planes)), left_falls p t (upto (length planes)), left_least p t (upto (length planes)), length_upto (length planes))

cut_sizes_are : (h : Header) (rows : Rows) (band line t : ℕ) (signs : Bool) (above planes : List ℕ) (sizes : LineSizes) → t ≤ 15 → IsCounting h rows band line above planes
    → AreLineSizes above planes (rows band line) signs sizes → AreCutSizes h rows signs t band line (cut_sizes_at sizes t)
cut_sizes_are h rows band line t signs above planes sizes le known are = record {
  counts = counts_are h rows band line t signs above planes sizes le known are;
  numbers = λ kind mode apart. numbers_are h rows band line t signs above planes sizes le known are apart ∙ ap (λ n. sum_by (number_size apart (planes_of (rows band line)) t) (upto n)) known.size;
  dead_zone = λ wanted mode. are.dead_zone wanted t le ∙ ap (λ n. signs_size (sent_line DeadZone (rows band line) n t)) known.size;
  uniform = λ wanted mode. are.uniform wanted t le ∙ ap (λ n. signs_size (sent_line Uniform (rows band line) n t)) known.size;
}

-- One more line of a band

-- the last of some lines, and those before it
last_line : (lines : List LineSizes) (sizes : LineSizes) (first line : ℕ) → line - first ≡ length lines → line_in (lines ++ sizes ∷ []) first line ≡ sizes
last_line lines sizes first line here = ap (λ k. get_or (lines ++ sizes ∷ []) k no_line) here ∙ get_or-append_seam lines sizes [] no_line

earlier_line : (lines : List LineSizes) (sizes : LineSizes) (first line : ℕ) → line - first < length lines → line_in (lines ++ sizes ∷ []) first line ≡ line_in lines first line
earlier_line lines sizes first line inside = get_or_append_left lines (sizes ∷ []) no_line (line - first) inside

pub line_added : (h : Header) (rows : Rows) (band first line : ℕ) (signs : Bool) (above planes : List ℕ) (sizes : LineSizes) (lines : List LineSizes) → first ≤ line
    → length planes ≡ groups_of (band_width_of h band)
    → ((group : ℕ) → group < length planes → get_or planes group 0 ≡ planes_of (rows band line) group)
    → ((group : ℕ) → group < length planes → get_or above group 0 ≡ planes_above h rows band line group)
    → AreRegular sizes → AreLineSizes above planes (rows band line) signs sizes → AreBandSizes h rows signs band first line lines
    → AreBandSizes h rows signs band first (line + 1) (lines ++ sizes ∷ [])
line_added h rows band first line signs above planes sizes lines from groups counts predictions regular are before = record {
  count = omega (arith, length-append lines (sizes ∷ []), before.count, from);
  regular = even;
  sizes = each;
}
  where
    known : IsCounting h rows band line above planes
    known = record { size = groups; own = counts; under = predictions }

    even : (l : ℕ) → first ≤ l → l < line + 1 → AreRegular (line_in (lines ++ sizes ∷ []) first l)
    even l low high = elim (cases_eq l line) [
      | inl same ↦ subst AreRegular (sym (last_line lines sizes first l (omega (arith, same, before.count)))) regular
      | inr other ↦ subst AreRegular (sym (earlier_line lines sizes first l (omega (arith, other, high, low, before.count)))) (before.regular l low (omega (arith, other, high)))
    ]

    each : (l t : ℕ) → first ≤ l → l < line + 1 → t ≤ 15 → AreCutSizes h rows signs t band l (cut_at (lines ++ sizes ∷ []) first l t)
    each l t low high le = elim (cases_eq l line) [
      | inl same ↦
          let here : cut_at (lines ++ sizes ∷ []) first l t ≡ cut_sizes_at sizes t = ap (λ s. cut_sizes_at s t) (last_line lines sizes first l (omega (arith, same, before.count))) in
          subst (λ s. AreCutSizes h rows signs t band l s) (sym here) (subst (λ k. AreCutSizes h rows signs t band k (cut_sizes_at sizes t)) (sym same) (cut_sizes_are h rows band line t signs above planes sizes le known are))
      | inr other ↦
          let here : cut_at (lines ++ sizes ∷ []) first l t ≡ cut_at lines first l t = ap (λ s. cut_sizes_at s t) (earlier_line lines sizes first l (omega (arith, other, high, low, before.count))) in
          subst (λ s. AreCutSizes h rows signs t band l s) (sym here) (before.sizes l t low (omega (arith, other, high)) le)
    ]

-- The first line of a slice

pub first_line : (h : Header) (slice : ℕ) (bands : List BandLines) (band line : ℕ) → AreLinesOf h slice bands → HasLine bands band line → is_first_line h band line ≡ nat_eq line (lines_at bands band).first
first_line h slice bands band line are has =
    let size = slice_height h band in
    let there : band < bands_of h = omega (arith, has.band_there, are.count) in
    let first = are.first band there in
    let end = are.lines band there in
    let next : (slice + 1) * size ≡ slice * size + size = omega arith in
    let low : slice * size ≤ line = omega (arith, has.from, first, has.line_there, end) in
    let rest : line - slice * size < size = omega (arith, low, has.line_there, first, end, next) in
    let back : slice * size + (line - slice * size) ≡ line = omega (arith, low) in
    let left : line % size ≡ line - slice * size = sym (ap (λ n. n % size) back) ∙ mod-mul-add slice size (line - slice * size) rest in
    ap (λ n. nat_eq n 0) left ∙ same (line - slice * size) (lines_at bands band).first has.from (omega (arith, first, has.from, low, has.line_there, end))
  where
    same : (n first : ℕ) → first ≤ line → n ≡ line - first → nat_eq n 0 ≡ nat_eq line first
    same n first from e = elim (cases_eq line first) [
      | inl here ↦ eq-eqb n 0 (omega (arith, e, here)) ∙ sym (eq-eqb line first here)
      | inr past ↦ ne_eqb n 0 (λ none. past (omega (arith, e, none, from))) ∙ sym (ne_eqb line first past)
    ]

-- the sizes of no lines
pub band_start : (h : Header) (rows : Rows) (signs : Bool) (band first : ℕ) (lines : List LineSizes) → lines ≡ [] → AreBandSizes h rows signs band first first lines
band_start h rows signs band first lines none = record { count = omega (arith, ap length none); regular = λ line low high. absurd (omega (arith, low, high)); sizes = λ line t low high le. absurd (omega (arith, low, high)) }

pub first_zero : (first x : ℕ) → (if nat_eq first first then 0 else x) ≡ 0
first_zero first x = ap (λ (b : Bool). if b then 0 else x) (eq-eqb first first refl)

pub next_planes : (first line x y : ℕ) → first ≤ line → x ≡ y → x ≡ (if nat_eq (line + 1) first then 0 else y)
next_planes first line x y from e = e ∙ sym (ap (λ (b : Bool). if b then 0 else y) (ne_eqb (line + 1) first (λ same. absurd (omega (arith, same, from)))))

-- what was added behind the lines of a band
pub row_added : (h : Header) (slice : ℕ) (bands : List BandLines) (band line n : ℕ) (signs : Bool) (above : List ℕ) (old new : List LineSizes) → AreLinesOf h slice bands → HasLine bands band line
    → n ≡ groups_of (band_width_of h band)
    → ((group : ℕ) → group < n → get_or above group 0 ≡ (if nat_eq line (lines_at bands band).first then 0 else planes_of (rows_held bands band (line - 1)) group))
    → AreAdded above (map (planes_of (rows_held bands band line)) (upto n)) (rows_held bands band line) signs old new
    → AreBandSizes h (rows_held bands) signs band (lines_at bands band).first line old → AreBandSizes h (rows_held bands) signs band (lines_at bands band).first (line + 1) new
row_added h slice bands band line n signs above old new are has groups predictions added before =
    let planes = map (planes_of (rows_held bands band line)) (upto n) in
    let size : length planes ≡ n = length-map-range_with_len (planes_of (rows_held bands band line)) 0 n in
    subst (λ cuts. AreBandSizes h (rows_held bands) signs band (lines_at bands band).first (line + 1) cuts) (sym added.added)
    (line_added h (rows_held bands) band (lines_at bands band).first line signs above planes added.line old has.from (size ∙ groups)
    (λ group inside. own group (omega (arith, size, inside)))
    (λ group inside. predictions group (omega (arith, size, inside)) ∙ ap (λ (b : Bool). if b then 0 else planes_of (rows_held bands band (line - 1)) group) (sym (first_line h slice bands band line are has)))
    added.regular added.sizes before)
  where
    own : (group : ℕ) → group < n → get_or (map (planes_of (rows_held bands band line)) (upto n)) group 0 ≡ planes_of (rows_held bands band line) group
    own group inside = let none : 0 + group ≡ group = omega arith in get_or-map-range_with_len (planes_of (rows_held bands band line)) 0 n group group 0 inside none
