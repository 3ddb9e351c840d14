-- The mode of a band in a precinct, and the bits of its lines.
use Rattle.std.proofs.Common.{◌≡◌, ℕ, zero, suc, ◌+◌, ◌-◌, ◌*◌, ◌<◌, ◌≤◌, min, List, [], ◌∷◌, length, get_or, sym, ap, subst, ◌∙◌, arith, inl, inr}
use Rattle.std.specs.Prelude.{Bool, true, nat_le, if◌then◌else◌}
use Rattle.std.specs.List.{Contains}
use Rattle.std.proofs.lemmas.Bool.{cases_eq, cases_lt}
use Rattle.std.proofs.Math.Nat.{mul-le-mul_right, mul_assoc}
use Rattle.xs_layout.specs.Geometry.{groups_of, significance_groups_of}
use Rattle.xs_layout.specs.declared.Quant.{Quant}
use Rattle.xs_params.specs.declared.header.Header.{Header}
use Rattle.xs_params.specs.Rows.{Rows}
use Rattle.xs_params.specs.Geometry.{band_width_of, bands_of, lines_of, precinct_lines, precincts_of, precinct_count}
use Rattle.xs_spelling.specs.Sizes.{count_size, flag_size, signs_size}
use Rattle.xs_spelling.specs.Written.{written_flag}
use Rattle.xs_spelling.proofs.Sized.{lines_sized}
use Rattle.xs_geometry.specs.SliceLines.{BandLines, HasLine, AreLinesOf, lines_at, rows_held}
use Rattle.xs_geometry.proofs.PlaceFacts.{range_has}
use Rattle.xs_rate.specs.Modes.{fewest, IsFirstFewest}
use Rattle.xs_rate.proofs.Fewest.{first_fewest}
use Rattle.xs_sizes.specs.Cut.{cut_line, signs_of, AreCutSizes, CutSizes}
use Rattle.xs_sizes.specs.Counted.{IsBandCounted, line_in, no_line}
use Rattle.xs_sizes.specs.LineSizes.{AreRegular, cut_sizes_at}
use Rattle.xs_layout.specs.declared.Quant.TheVariants.{DeadZone, Uniform}
use Rattle.xs_sizes.specs.declared.line.LineSizes.{LineSizes}
use Rattle.xs_sizes.specs.declared.bands.BandCounts.{BandCounts}

-- a line has flags in the last two modes
pub flags_are : (h : Header) (kind : Quant) (rows : Rows) (t mode band line : ℕ) → mode < 4 → flag_size (cut_line h kind rows t mode band line) ≡ (if nat_le 2 mode then significance_groups_of (groups_of (band_width_of h band)) else 0)
flags_are h kind rows t zero band line few = lines_sized.flags (cut_line h kind rows t 0 band line) (written_flag (cut_line h kind rows t 0 band line))
flags_are h kind rows t (suc zero) band line few = lines_sized.flags (cut_line h kind rows t 1 band line) (written_flag (cut_line h kind rows t 1 band line))
flags_are h kind rows t (suc (suc zero)) band line few = lines_sized.flags (cut_line h kind rows t 2 band line) (written_flag (cut_line h kind rows t 2 band line))
flags_are h kind rows t (suc (suc (suc zero))) band line few = lines_sized.flags (cut_line h kind rows t 3 band line) (written_flag (cut_line h kind rows t 3 band line))
flags_are h kind rows t (suc (suc (suc (suc mode)))) band line few = absurd (omega (arith, few))

-- what is held of a line in a band
pub sizes_are : (h : Header) (bands : List BandLines) (signs : Bool) (band line t : ℕ) (counts : BandCounts) (sizes : LineSizes) → IsBandCounted h bands signs band counts → counts.first ≤ line → line - counts.first < length counts.lines.items → t ≤ 15
    → sizes ≡ get_or counts.lines.items (line - counts.first) no_line → AreCutSizes h (rows_held bands) signs t band line (cut_sizes_at sizes t)
sizes_are h bands signs band line t counts sizes known from there le e =
    subst (λ s. AreCutSizes h (rows_held bands) signs t band line s) (sym (ap (λ s. cut_sizes_at s t) (e ∙ ap (λ first. line_in counts.lines.items first line) known.first)))
    (known.lines.sizes line t (omega (arith, known.first, from)) (omega (arith, there, known.lines.count, known.first, from)) le)

-- the bits of its flags and of its counts
pub mode_bits : (h : Header) (bands : List BandLines) (signs : Bool) (band line t mode : ℕ) (counts : BandCounts) (sizes : LineSizes) → IsBandCounted h bands signs band counts → counts.first ≤ line → line - counts.first < length counts.lines.items → t ≤ 15 → mode < 4
    → sizes ≡ get_or counts.lines.items (line - counts.first) no_line
    → (if nat_le 2 mode then counts.flags else 0) + get_or (cut_sizes_at sizes t).counts mode 0 ≡ flag_size (cut_line h h.quant (rows_held bands) t mode band line) + count_size (cut_line h h.quant (rows_held bands) t mode band line)
mode_bits h bands signs band line t mode counts sizes known from there le few e =
    let flags = ap (λ n. if nat_le 2 mode then n else 0) known.flags ∙ sym (flags_are h h.quant (rows_held bands) t mode band line few) in
    ap (λ n. n + get_or (cut_sizes_at sizes t).counts mode 0) flags
    ∙ ap (λ n. flag_size (cut_line h h.quant (rows_held bands) t mode band line) + n) ((sizes_are h bands signs band line t counts sizes known from there le e).counts h.quant mode few)

-- one number is the first mode with the fewest bits
one_first : (size : ℕ → ℕ) (m n : ℕ) → IsFirstFewest size m → IsFirstFewest size n → m ≡ n
one_first size m n p q = elim (cases_lt m n) [
  | inl below ↦ absurd (omega (arith, q.first m below, p.least n q.is_mode))
  | inr above ↦ elim (cases_eq m n) [
    | inl same ↦ same
    | inr other ↦ absurd (omega (arith, p.first n (omega (arith, above, other)), q.least m p.is_mode))
  ]
]

pub is_fewest : (size : ℕ → ℕ) (m : ℕ) → IsFirstFewest size m → m ≡ fewest size
is_fewest size m p = one_first size m (fewest size) p (first_fewest size)

-- The lines of a precinct are lines of its slice

pub record AreInside (first end : ℕ) (lines : ℕ × ℕ) : Type 0 where
  pub from : first ≤ lines.0
  pub to : lines.1 ≤ end
  pub order : lines.0 ≤ lines.1

pub precinct_inside : (h : Header) (slice : ℕ) (bands : List BandLines) (precinct band : ℕ) → AreLinesOf h slice bands → Contains (precincts_of h slice) precinct → band < bands_of h
    → AreInside (lines_at bands band).first ((lines_at bands band).first + length (lines_at bands band).rows) (lines_of h precinct band)
precinct_inside h slice bands precinct band are there inside =
    let lines = precinct_lines h band in
    let known = range_has (slice * h.hsl) (min ((slice + 1) * h.hsl) (precinct_count h) - slice * h.hsl) precinct there in
    let low : slice * h.hsl * lines ≤ precinct * lines = mul-le-mul_right lines known.0 in
    let below : precinct + 1 ≤ (slice + 1) * h.hsl = omega (arith, known.0, known.1) in
    let high : (precinct + 1) * lines ≤ (slice + 1) * h.hsl * lines = mul-le-mul_right lines below in
    let start : slice * h.hsl * lines ≡ slice * (h.hsl * lines) = mul_assoc slice h.hsl lines in
    let stop : (slice + 1) * h.hsl * lines ≡ (slice + 1) * (h.hsl * lines) = mul_assoc (slice + 1) h.hsl lines in
    let next : (precinct + 1) * lines ≡ precinct * lines + lines = omega arith in
    record {
      from = omega (arith, are.first band inside, low, start);
      to = omega (arith, are.lines band inside, are.first band inside, high, stop);
      order = omega (arith, next);
    }

pub signs_are : (h : Header) (rows : Rows) (t mode band line : ℕ) (kind : Quant) (signs : Bool) (sizes : CutSizes) → AreCutSizes h rows signs t band line sizes → signs ≡ true → signs_of kind sizes ≡ signs_size (cut_line h kind rows t mode band line)
signs_are h rows t mode band line DeadZone signs sizes are wanted = are.dead_zone wanted mode
signs_are h rows t mode band line Uniform signs sizes are wanted = are.uniform wanted mode

pub four_same : (a b c d e f g h : ℕ) → a ≡ e → b ≡ f → c ≡ g → d ≡ h → a ∷ b ∷ c ∷ d ∷ [] ≡ e ∷ f ∷ g ∷ h ∷ []
four_same a b c d e f g h p q r s = ap (λ x. x ∷ b ∷ c ∷ d ∷ []) p ∙ ap (λ x. e ∷ x ∷ c ∷ d ∷ []) q ∙ ap (λ x. e ∷ f ∷ x ∷ d ∷ []) r ∙ ap (λ x. e ∷ f ∷ g ∷ x ∷ []) s

-- what is held of a line that is there
pub held_line : (h : Header) (bands others : List BandLines) (signs : Bool) (band line t : ℕ) (counts : BandCounts) (sizes : LineSizes) → IsBandCounted h bands signs band counts → IsBandCounted h others signs band counts → HasLine others band line → t ≤ 15
    → sizes ≡ get_or counts.lines.items (line - counts.first) no_line → AreCutSizes h (rows_held bands) signs t band line (cut_sizes_at sizes t)
held_line h bands others signs band line t counts sizes known held has le e =
    sizes_are h bands signs band line t counts sizes known (omega (arith, held.first, has.from)) (omega (arith, held.first, held.lines.count, has.from, has.line_there)) le e

pub held_regular : (h : Header) (bands : List BandLines) (signs : Bool) (band line : ℕ) (counts : BandCounts) (sizes : LineSizes) → IsBandCounted h bands signs band counts → HasLine bands band line
    → sizes ≡ get_or counts.lines.items (line - counts.first) no_line → AreRegular sizes
held_regular h bands signs band line counts sizes held has e =
    subst AreRegular (sym (e ∙ ap (λ first. line_in counts.lines.items first line) held.first)) (held.lines.regular line has.from has.line_there)
