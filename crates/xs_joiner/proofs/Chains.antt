-- A line goes on from level to level.
use Rattle.std.proofs.Common.{◌≡◌, ◌≢◌, ℕ, suc, ◌+◌, ◌-◌, ◌*◌, ◌<◌, ◌≤◌, [], List, length, get_or, get_or-set_other, ℤ, Bool, true, false, nat_lt, if◌then◌else◌, arith, ap, sym, subst, ◌∙◌, inl, inr, refl}
use Rattle.std.proofs.Math.ListN.{set}
use Rattle.std.proofs.lemmas.Bool.{cases_eq, ltb-true, ltb-false}
use Rattle.std.proofs.lemmas.Grind.{get_or-set_at}
use Rattle.xs_signal.proofs.LineLaws.{line_near}
use Rattle.xs_signal.specs.Lines.{entries_of, Shows}
use Rattle.xs_signal.specs.Wavelet.{Split, Bands, low_count, high_count, low_count_at, inverse_line, columns_joined, joined, restored}
use Rattle.xs_signal.specs.Stripe.{rows_at, rows_each}
use Rattle.xs_joiner.specs.Units.{rise}
use Rattle.xs_joiner.specs.Columns.{SameLine, joined_rows}
use Rattle.xs_joiner.specs.Level.{given_rows, lows}
use Rattle.xs_joiner.specs.Chain.{reach_at, part_of, low_rows, high_rows, IsLevelAt, EachLevel, HaveWidths}
use Rattle.xs_joiner.specs.declared.level.Level.{Level}
use Rattle.xs_joiner.proofs.Counts.{rows_deep, rows_kept, rows_halved, each_halved, each_kept}

-- ---- the parts of the plane

part_cases : (s : Split) (b : Bands) (level k : ℕ) → s.across - level ≡ suc k → s.across - suc k ≡ level → s.across - suc level ≡ k → part_of s b level ≡ joined s b level (part_of s b (suc level))
part_cases s b level k here back next =
    ap (restored s b) here ∙ ap (λ l. joined s b l (restored s b k)) back ∙ ap (λ j. joined s b level (restored s b j)) (sym next)

pub part_step : (s : Split) (b : Bands) (level : ℕ) → level < s.across → part_of s b level ≡ joined s b level (part_of s b (suc level))
part_step s b level less = part_cases s b level (s.across - suc level) (omega (arith, less)) (omega (arith, less)) refl

-- a row that is joined across of rows that show two lines
pub row_joined : (w : ℕ) (p q : ℕ → ℤ) (xs ys : List ℤ) → 2 ≤ w → length xs ≡ low_count w → length ys ≡ high_count w → Shows xs p → Shows ys q → SameLine w (inverse_line w p q) (inverse_line w (entries_of xs) (entries_of ys))
row_joined w p q xs ys two wx wy sx sy column inside =
    line_near w 0 (low_count w) p (entries_of xs) q (entries_of ys) two (λ j _ _ less. sym (sx j (omega (arith, less, wx)))) (λ j _ _ less. sym (sy j (omega (arith, less, wy)))) column (omega arith) (omega (arith, inside)) inside

given_cases : (s : Split) (b : Bands) (level height g : ℕ) (deep : Bool) → nat_lt level s.down ≡ deep → height ≡ rows_at s level → (line : List ℤ)
    → Shows line ((if deep then joined_rows height (low_rows s b level) (high_rows s b level) else low_rows s b level) g)
    → Shows line ((if deep then columns_joined s level (low_rows s b level) (high_rows s b level) else low_rows s b level) g)
given_cases s b level height g true is tall line shown =
    let less : level < s.down = ltb-true level s.down is in
    subst (λ h. Shows line (joined_rows h (low_rows s b level) (high_rows s b level) g)) (tall ∙ rows_deep s level (omega (arith, less))) shown
given_cases s b level height g false is tall line shown = shown

-- the row that a level gives is one of the part that it makes
pub given_part : (s : Split) (b : Bands) (level given taken g : ℕ) (l : Level) (line : List ℤ) → level < s.across → IsLevelAt s level given taken l → Shows line (given_rows l (low_rows s b level) (high_rows s b level) g) → Shows line (part_of s b level g)
given_part s b level given taken g l line less at shown =
    let mine = subst (λ d. Shows line ((if d then joined_rows l.columns.height (low_rows s b level) (high_rows s b level) else low_rows s b level) g)) at.deep shown in
    subst (λ p. Shows line (p g)) (sym (part_step s b level less)) (given_cases s b level l.columns.height g (nat_lt level s.down) refl at.height line mine)

-- ---- what a level takes and gives

pub next_cases : (s : Split) (level height : ℕ) (deep : Bool) → nat_lt level s.down ≡ deep → height ≡ rows_at s level → (if deep then low_count height else height) ≡ rows_at s (suc level)
next_cases s level height true is tall = ap low_count tall ∙ sym (rows_halved s level (ltb-true level s.down is))
next_cases s level height false is tall = tall ∙ sym (rows_kept s level (ltb-false level s.down is))

pub lows_at : (s : Split) (level given taken : ℕ) (l : Level) → IsLevelAt s level given taken l → lows l ≡ rows_at s (suc level)
lows_at s level given taken l at = ap (λ d. if d then low_count l.columns.height else l.columns.height) at.deep ∙ next_cases s level l.columns.height (nat_lt level s.down) refl at.height

start_cases : (s : Split) (level first g : ℕ) (deep : Bool) → nat_lt level s.down ≡ deep → rows_each s level * first ≤ g → (if deep then 2 * (rows_each s (suc level) * first) else rows_each s (suc level) * first) ≤ g
start_cases s level first g true is from = omega (arith, from, each_halved s level first (ltb-true level s.down is))
start_cases s level first g false is from = omega (arith, from, each_kept s level first (ltb-false level s.down is))

pub begun_at : (s : Split) (level first given taken : ℕ) (l : Level) → IsLevelAt s level given taken l → rows_each s level * first ≤ given → (if l.deep then 2 * (rows_each s (suc level) * first) else rows_each s (suc level) * first) ≤ l.given
begun_at s level first given taken l at from =
    subst (λ g. (if l.deep then 2 * (rows_each s (suc level) * first) else rows_each s (suc level) * first) ≤ g) (sym at.given)
    (subst (λ d. (if d then 2 * (rows_each s (suc level) * first) else rows_each s (suc level) * first) ≤ given) (sym at.deep) (start_cases s level first given (nat_lt level s.down) refl from))

pub reach_cases : (s : Split) (level : ℕ) (deep : Bool) → nat_lt level s.down ≡ deep → level < s.across → reach_at s (suc level) + rise deep ≡ reach_at s level
reach_cases s level true is less = let down : level < s.down = ltb-true level s.down is in omega (arith, less)
reach_cases s level false is less = let past : s.down ≤ level = ltb-false level s.down is in omega (arith, less)

pub reach_given : (s : Split) (level given taken : ℕ) (l : Level) → level < s.across → IsLevelAt s level given taken l → l.columns.reach + rise l.deep ≡ reach_at s level
reach_given s level given taken l less at = ap (λ r. r + rise l.deep) at.reach ∙ ap (λ d. reach_at s (suc level) + rise d) at.deep ∙ reach_cases s level (nat_lt level s.down) refl less

pub is_deep : (s : Split) (level given taken : ℕ) (l : Level) → IsLevelAt s level given taken l → l.deep ≡ true → level < s.down
is_deep s level given taken l at deep = ltb-true level s.down (sym at.deep ∙ deep)

pub is_flat : (s : Split) (level given taken : ℕ) (l : Level) → IsLevelAt s level given taken l → l.deep ≡ false → s.down ≤ level
is_flat s level given taken l at flat = ltb-false level s.down (sym at.deep ∙ flat)

-- ---- one level of them is changed

pub each_set : (levels : List Level) (at first end : ℕ) (new : Level) (P : ℕ → Level → Type 0) → at < length levels → P at new → ((level : ℕ) (other : Level) → first ≤ level → level < end → level ≢ at → P level (get_or levels level other)) → EachLevel first end (set levels at new) P
each_set levels at first end new P inside here others level other from to =
    elim (cases_eq level at) [
      | inl e ↦ subst (P level) (sym (get_or-set_at levels at level new other e inside)) (subst (λ k. P k new) (sym e) here)
      | inr ne ↦ subst (P level) (sym (get_or-set_other levels at level new other ne)) (others level other from to ne)
    ]

pub widths_set : (s : Split) (lines : List (List ℤ)) (at : ℕ) (line : List ℤ) → at < length lines → length line ≡ low_count_at s.width at → HaveWidths s lines → HaveWidths s (set lines at line)
widths_set s lines at line inside wide old level to =
    elim (cases_eq level at) [
      | inl e ↦ ap length (get_or-set_at lines at level line [] e inside) ∙ wide ∙ ap (low_count_at s.width) (sym e)
      | inr ne ↦ ap length (get_or-set_other lines at level line [] ne) ∙ old level to
    ]
