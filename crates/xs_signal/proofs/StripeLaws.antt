-- A stripe looks no further than its neighbours' nearest rows.
use Rattle.std.proofs.Common.{◌≡◌, ℕ, zero, suc, ◌+◌, ◌-◌, ◌*◌, ◌^◌, ◌<◌, ◌≤◌, min, ℤ, arith, ap, sym, subst, ◌∙◌, refl, Bool, true, false, nat_lt, inl, inr}
use Rattle.std.specs.Prelude.{if◌then◌else◌}
use Rattle.std.proofs.Math.Nat.{pow-suc, pow-le-pow_right, mul-le-mul_right}
use Rattle.std.proofs.lemmas.Bool.{ltb-true, ltb-false, cases_lt}
use Rattle.std.proofs.lemmas.Nat.{pow_pos}
use Rattle.xs_signal.specs.Lines.{column_of}
use Rattle.xs_signal.specs.Wavelet.{Split, Bands, low_count, high_count, low_count_at, rows_joined, columns_joined, joined, restored, inverse_plane}
use Rattle.xs_signal.specs.Stripe.{SameRows, rows_at, IsSplit, rows_each, SameNear, StripeNear, SplitsWhereLarge}
use Rattle.xs_signal.proofs.LineLaws.{line_near}

rows_near : (s : Split) (level lead a b height : ℕ) (p q u v : ℕ → ℕ → ℤ) → 2 ≤ low_count_at s.width level → SameRows lead a b height (low_count (low_count_at s.width level)) p q
    → SameRows lead a b height (high_count (low_count_at s.width level)) u v → SameRows lead a b height (low_count_at s.width level) (rows_joined s level p u) (rows_joined s level q v)
rows_near s level lead a b height p q u v two low high row column from to inside within =
    let n = low_count_at s.width level in
    line_near n 0 (low_count n) (p row) (q row) (u row) (v row) two (λ j _ _ less. low row j from to inside less) (λ j _ _ less. high row j from to inside less) column (omega arith) (omega arith) within

columns_near : (s : Split) (level a b width : ℕ) (p q u v : ℕ → ℕ → ℤ) → 2 ≤ low_count_at s.height level → SameRows 0 a b (low_count (low_count_at s.height level)) width p q
    → SameRows 1 a b (high_count (low_count_at s.height level)) width u v → SameRows 0 (2 * a) (2 * b) (low_count_at s.height level) width (columns_joined s level p u) (columns_joined s level q v)
columns_near s level a b width p q u v two low high row column from to inside within =
    line_near (low_count_at s.height level) a b (column_of p column) (column_of q column) (column_of u column) (column_of v column) two
    (λ j above below less. low j column (omega arith) below less within) (λ j above below less. high j column above below less within) row (omega arith) to inside

-- one step back
step_near : (s : Split) (a b : ℕ) (x y : Bands) (level : ℕ) (p q : ℕ → ℕ → ℤ) (deep : Bool) → nat_lt level s.down ≡ deep → IsSplit s → SameNear s a b x y → level < s.across
    → SameRows 0 (rows_each s (level + 1) * a) (rows_each s (level + 1) * b) (rows_at s (level + 1)) (low_count (low_count_at s.width level)) p q
    → SameRows 0 (rows_each s level * a) (rows_each s level * b) (rows_at s level) (low_count_at s.width level) (joined s x level p) (joined s y level q)
step_near s a b x y level p q true is split near inside same row column from to within column_within =
    let less : level < s.down = ltb-true level s.down is in
    let c = rows_each s (level + 1) in
    let w = low_count_at s.width level in
    let next : s.down - level ≡ suc (s.down - (level + 1)) = omega arith in
    let twice : rows_each s level ≡ c * 2 = ap (λ k. 2 ^ k) next ∙ pow-suc 2 (s.down - (level + 1)) in
    let rows_before : min (level + 1) s.down ≡ suc level = omega arith in
    let rows_here : min level s.down ≡ level = omega arith in
    let two = split.wide level inside in
    let low = subst (λ h. SameRows 0 (c * a) (c * b) h (low_count w) p q) (ap (low_count_at s.height) rows_before) same in
    let hl = subst (λ h. SameRows 0 (c * a) (c * b) h (high_count w) (x.hl (level + 1)) (y.hl (level + 1))) (ap (low_count_at s.height) rows_before) (near.hl level inside) in
    let top = rows_near s level 0 (c * a) (c * b) (low_count (low_count_at s.height level)) p q (x.hl (level + 1)) (y.hl (level + 1)) two low hl in
    let rest = rows_near s level 1 (c * a) (c * b) (high_count (low_count_at s.height level)) (x.lh (level + 1)) (y.lh (level + 1)) (x.hh (level + 1)) (y.hh (level + 1)) two (near.lh level less) (near.hh level less) in
    let t = rows_joined s level p (x.hl (level + 1)) in
    let t' = rows_joined s level q (y.hl (level + 1)) in
    let r = rows_joined s level (x.lh (level + 1)) (x.hh (level + 1)) in
    let r' = rows_joined s level (y.lh (level + 1)) (y.hh (level + 1)) in
    let both = columns_near s level (c * a) (c * b) w t t' r r' (split.high level less) top rest in
    let here = ap (low_count_at s.height) rows_here in
    let start = ap (λ k. k * a) twice in
    let end = ap (λ k. k * b) twice in
    ap (λ d. (if d then columns_joined s level t r else t) row column) is ∙ both row column (omega arith) (omega arith) (omega arith) column_within ∙ sym (ap (λ d. (if d then columns_joined s level t' r' else t') row column) is)
step_near s a b x y level p q false is split near inside same row column from to within column_within =
    let more : s.down ≤ level = ltb-false level s.down is in
    let w = low_count_at s.width level in
    let none : s.down - (level + 1) ≡ s.down - level = omega arith in
    let each : rows_each s (level + 1) ≡ rows_each s level = ap (λ k. 2 ^ k) none in
    let rows_same : min (level + 1) s.down ≡ min level s.down = omega arith in
    let t = rows_joined s level p (x.hl (level + 1)) in
    let t' = rows_joined s level q (y.hl (level + 1)) in
    let r = rows_joined s level (x.lh (level + 1)) (x.hh (level + 1)) in
    let r' = rows_joined s level (y.lh (level + 1)) (y.hh (level + 1)) in
    let all = rows_near s level 0 (rows_each s (level + 1) * a) (rows_each s (level + 1) * b) (rows_at s (level + 1)) p q (x.hl (level + 1)) (y.hl (level + 1)) (split.wide level inside) same (near.hl level inside) in
    let start = ap (λ k. k * a) each in
    let end = ap (λ k. k * b) each in
    let size = ap (low_count_at s.height) rows_same in
    ap (λ d. (if d then columns_joined s level t r else t) row column) is ∙ all row column (omega arith) (omega arith) (omega arith) column_within ∙ sym (ap (λ d. (if d then columns_joined s level t' r' else t') row column) is)

restored_near : (s : Split) (a b : ℕ) (x y : Bands) → IsSplit s → SameNear s a b x y → (steps : ℕ) → steps ≤ s.across
    → SameRows 0 (rows_each s (s.across - steps) * a) (rows_each s (s.across - steps) * b) (rows_at s (s.across - steps)) (low_count_at s.width (s.across - steps)) (restored s x steps) (restored s y steps)
restored_near s a b x y split near zero inside row column from to within column_within =
    let all : s.across - 0 ≡ s.across = omega arith in
    let deep = split.deep in
    let one : s.down - (s.across - 0) ≡ 0 = omega arith in
    let each = ap (λ k. 2 ^ k) one in
    let start = ap (λ k. k * a) each in
    let end = ap (λ k. k * b) each in
    let tall = ap (rows_at s) all in
    let wide = ap (low_count_at s.width) all in
    near.ll row column (omega arith) (omega arith) (omega arith) (omega arith)
restored_near s a b x y split near (suc steps) inside row column from to within column_within =
    let level = s.across - suc steps in
    let next : s.across - steps ≡ level + 1 = omega arith in
    let same : SameRows 0 (rows_each s (level + 1) * a) (rows_each s (level + 1) * b) (rows_at s (level + 1)) (low_count_at s.width (level + 1)) (restored s x steps) (restored s y steps) =
    subst (λ l. SameRows 0 (rows_each s l * a) (rows_each s l * b) (rows_at s l) (low_count_at s.width l) (restored s x steps) (restored s y steps)) next (restored_near s a b x y split near steps (omega arith)) in
    let one : level + 1 ≡ suc level = omega arith in
    let ready = subst (λ l. SameRows 0 (rows_each s (level + 1) * a) (rows_each s (level + 1) * b) (rows_at s (level + 1)) (low_count_at s.width l) (restored s x steps) (restored s y steps)) one same in
    step_near s a b x y level (restored s x steps) (restored s y steps) (nat_lt level s.down) refl split near (omega arith) ready row column from to within column_within

pub stripe_near : StripeNear
stripe_near s a b x y split near row column from to within column_within =
    let none : s.across - s.across ≡ 0 = omega arith in
    let all = subst (λ l. SameRows 0 (rows_each s l * a) (rows_each s l * b) (rows_at s l) (low_count_at s.width l) (inverse_plane s x) (inverse_plane s y)) none (restored_near s a b x y split near s.across (omega arith)) in
    let first : min 0 s.down ≡ 0 = omega arith in
    let tall = ap (low_count_at s.height) first in
    all row column from to (omega (arith, tall)) column_within

-- ---- planes with lines for each level

regroup : (c q r : ℕ) → r ≡ q * 2 → c * r ≡ 2 * c * q
regroup c q r e = omega (arith, ap (λ x. c * x) e)

covers : (n level : ℕ) → n ≤ low_count_at n level * 2 ^ level
covers n zero = omega arith
covers n (suc level) =
    let m = low_count_at n level in
    let twice : m ≤ 2 * low_count m = omega arith in
    let more : m * 2 ^ level ≤ 2 * low_count m * 2 ^ level = mul-le-mul_right (2 ^ level) twice in
    let same = regroup (low_count m) (2 ^ level) (2 ^ suc level) (pow-suc 2 level) in
    omega (arith, covers n level, more, same)

two_left : (n level levels : ℕ) → 2 ^ levels ≤ n → level < levels → 2 ≤ low_count_at n level
two_left n level levels large inside =
    let m = low_count_at n level in
    let more : suc level ≤ levels = omega arith in
    let power : 2 ^ suc level ≤ 2 ^ levels = pow-le-pow_right {n = 2} (omega arith) {i = suc level} {j = levels} more in
    elim (cases_lt m 2) [
      | inl less ↦
          let one : m ≤ 1 = omega arith in
          let small : m * 2 ^ level ≤ 1 * 2 ^ level = mul-le-mul_right (2 ^ level) one in
          let some = pow_pos level in
          absurd (omega (arith, covers n level, pow-suc 2 level))
      | inr two ↦ two
    ]

pub splits_where_large : SplitsWhereLarge
splits_where_large s wide high deep = record { wide = λ level inside. two_left s.width level s.across wide inside; high = λ level inside. two_left s.height level s.down high inside; deep = deep }
