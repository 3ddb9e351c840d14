-- How many rows the levels have given, from one line to the next.
use Rattle.std.proofs.Common.{◌≡◌, ℕ, zero, suc, ◌+◌, ◌-◌, ◌*◌, ◌^◌, ◌<◌, ◌≤◌, ◌⊎◌, min, Bool, true, false, nat_lt, if◌then◌else◌, arith, ap, sym, subst, ◌∙◌, inl, inr, refl}
use Rattle.std.proofs.Math.Nat.{pow-suc}
use Rattle.std.proofs.lemmas.Bool.{cases_lt, lt-ltb, le-ltb, ltb-true, ltb-false}
use Rattle.xs_signal.specs.Wavelet.{Split, low_count, low_count_at}
use Rattle.xs_signal.specs.Stripe.{rows_at, rows_each}
use Rattle.xs_joiner.specs.Counts.{taken_by, given_at}

-- ---- numbers of rows

pub rows_deep : (s : Split) (level : ℕ) → level ≤ s.down → rows_at s level ≡ low_count_at s.height level
rows_deep s level less = let here : min level s.down ≡ level = omega (arith, less) in ap (low_count_at s.height) here

pub rows_kept : (s : Split) (level : ℕ) → s.down ≤ level → rows_at s (suc level) ≡ rows_at s level
rows_kept s level more = let here : min (suc level) s.down ≡ min level s.down = omega (arith, more) in ap (low_count_at s.height) here

pub rows_halved : (s : Split) (level : ℕ) → level < s.down → rows_at s (suc level) ≡ low_count (rows_at s level)
rows_halved s level less = rows_deep s (suc level) (omega (arith, less)) ∙ ap low_count (sym (rows_deep s level (omega (arith, less))))

pub each_halved : (s : Split) (level first : ℕ) → level < s.down → 2 * (rows_each s (suc level) * first) ≡ rows_each s level * first
each_halved s level first less =
    let next : s.down - level ≡ suc (s.down - suc level) = omega (arith, less) in
    let twice : rows_each s level ≡ rows_each s (suc level) * 2 = ap (λ k. 2 ^ k) next ∙ pow-suc 2 (s.down - suc level) in
    regroup (rows_each s (suc level)) (rows_each s level) first twice
  where
    regroup : (c d f : ℕ) → d ≡ c * 2 → 2 * (c * f) ≡ d * f
    regroup c d f e = omega (arith, ap (λ x. x * f) e)

pub each_kept : (s : Split) (level first : ℕ) → s.down ≤ level → rows_each s (suc level) * first ≡ rows_each s level * first
each_kept s level first more =
    let none : s.down - suc level ≡ s.down - level = omega (arith, more) in
    ap (λ k. 2 ^ k * first) none

pub given_deep : (s : Split) (first n level : ℕ) → level < s.down → given_at s first n (suc level) ≡ taken_by (rows_each s (suc level) * first) (rows_at s level) (given_at s first n level)
given_deep s first n level less = ap (λ d. if d then taken_by (rows_each s (suc level) * first) (rows_at s level) (given_at s first n level) else given_at s first n level) (lt-ltb level s.down less)

pub given_flat : (s : Split) (first n level : ℕ) → s.down ≤ level → given_at s first n (suc level) ≡ given_at s first n level
given_flat s first n level more = ap (λ d. if d then taken_by (rows_each s (suc level) * first) (rows_at s level) (given_at s first n level) else given_at s first n level) (le-ltb level s.down more)

-- ---- arithmetic of one level

-- a further row is necessary
pub needed_more : (start h g t : ℕ) → t ≡ taken_by start h g → 2 * start ≤ g → g < h → t < low_count h → 2 * t < g + 2 → taken_by start h (g + 1) ≡ t + 1
needed_more start h g t is from room more past = omega arith

-- none is
pub needed_none : (start h g t : ℕ) → t ≡ taken_by start h g → 2 * start ≤ g → g < h → (low_count h ≤ t ⊎ g + 2 ≤ 2 * t) → taken_by start h (g + 1) ≡ t
needed_none start h g t is from room (inl all) = omega arith
needed_none start h g t is from room (inr known) = omega arith

-- where a row is taken, which of the rows that are then known is the next
pub known_after : (start h g t : ℕ) → t ≡ taken_by start h g → taken_by start h (g + 1) ≡ t + 1 → 2 * start ≤ g → g < h → (2 * (t + 1) ≤ g + 3) × (g < 2 * (t + 1)) × (g + 1 ≡ 2 * (t + 1) → t + 1 ≡ low_count h)
known_after start h g t is next from room = (omega arith, omega arith, λ e. omega arith)

-- where none is
pub known_still : (start h g t : ℕ) → t ≡ taken_by start h g → taken_by start h (g + 1) ≡ t → 2 * start ≤ g → g < h → (2 * t ≤ g + 3) × (g < 2 * t) × (g + 1 ≡ 2 * t → t ≡ low_count h)
known_still start h g t is next from room = (omega arith, omega arith, λ e. omega arith)

-- ---- along the levels

most_cases : (s : Split) (first n level : ℕ) (deep : Bool) → nat_lt level s.down ≡ deep → given_at s first n level ≤ rows_at s level → given_at s first n (suc level) ≤ rows_at s (suc level)
most_cases s first n level true is before =
    let less : level < s.down = ltb-true level s.down is in
    let here = given_deep s first n level less in
    let next = rows_halved s level less in
    omega (arith, here, next)
most_cases s first n level false is before =
    let more : s.down ≤ level = ltb-false level s.down is in
    omega (arith, before, given_flat s first n level more, rows_kept s level more)

pub given_most : (s : Split) (first n level : ℕ) → n ≤ s.height → given_at s first n level ≤ rows_at s level
given_most s first n zero to = let none : 0 ≡ min 0 s.down = omega arith in subst (λ k. n ≤ low_count_at s.height k) none to
given_most s first n (suc level) to = most_cases s first n level (nat_lt level s.down) refl (given_most s first n level to)

from_cases : (s : Split) (first n level : ℕ) (deep : Bool) → nat_lt level s.down ≡ deep → given_at s first n level ≤ rows_at s level → rows_each s level * first ≤ given_at s first n level → rows_each s (suc level) * first ≤ given_at s first n (suc level)
from_cases s first n level true is most before =
    let less : level < s.down = ltb-true level s.down is in
    let here = given_deep s first n level less in
    let half = each_halved s level first less in
    least (rows_each s (suc level) * first) (rows_at s level) (given_at s first n level) (given_at s first n (suc level)) here (omega (arith, half, before)) most
  where
    least : (start h g t : ℕ) → t ≡ taken_by start h g → 2 * start ≤ g → g ≤ h → start ≤ t
    least start h g t is from to = omega arith
from_cases s first n level false is most before =
    let more : s.down ≤ level = ltb-false level s.down is in
    omega (arith, before, given_flat s first n level more, each_kept s level first more)

pub given_from : (s : Split) (first n level : ℕ) → rows_each s 0 * first ≤ n → n ≤ s.height → rows_each s level * first ≤ given_at s first n level
given_from s first n zero from to = from
given_from s first n (suc level) from to = from_cases s first n level (nat_lt level s.down) refl (given_most s first n level to) (given_from s first n level from to)

-- where a level gives no row more, those after it give none
pub rests_past : (s : Split) (first m n level other : ℕ) → level ≤ other → given_at s first m level ≡ given_at s first n level → given_at s first m other ≡ given_at s first n other
rests_past s first m n level zero past same =
    let last : level ≡ 0 = omega (arith, past) in
    subst (λ k. given_at s first m k ≡ given_at s first n k) last same
rests_past s first m n level (suc other) past same =
    elim (cases_lt level (suc other)) [
      | inl less ↦
          let before = rests_past s first m n level other (omega (arith, less)) same in
          ap (λ g. if nat_lt other s.down then taken_by (rows_each s (suc other) * first) (rows_at s other) g else g) before
      | inr more ↦ let last : level ≡ suc other = omega (arith, past, more) in subst (λ k. given_at s first m k ≡ given_at s first n k) last same
    ]

none_cases : (c h g : ℕ) (deep : Bool) → g ≡ 0 → (if deep then taken_by (c * 0) h g else g) ≡ 0
none_cases c h g true e = let none : c * 0 ≡ 0 = omega arith in omega (arith, none, e)
none_cases c h g false e = e

-- before the first line nothing was given
pub none_given : (s : Split) (level : ℕ) → given_at s 0 0 level ≡ 0
none_given s zero = refl
none_given s (suc level) = none_cases (rows_each s (suc level)) (rows_at s level) (given_at s 0 0 level) (nat_lt level s.down) (none_given s level)
