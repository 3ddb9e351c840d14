-- A stripe of lines looks no further than the first rows below it.
use Rattle.std.proofs.Common.{◌≡◌, ℕ, zero, suc, ◌+◌, ◌*◌, ◌<◌, ◌≤◌, ◌⊎◌, Bool, true, false, nat_lt, arith, ap, sym, ◌∙◌, inl, inr, refl}
use Rattle.std.proofs.lemmas.Bool.{cases_eq, ltb-true, ltb-false}
use Rattle.xs_signal.specs.Wavelet.{Split}
use Rattle.xs_signal.specs.Stripe.{rows_at, rows_each}
use Rattle.xs_joiner.specs.Counts.{taken_by, given_at}
use Rattle.xs_joiner.specs.Near.{RowsNear}
use Rattle.xs_joiner.proofs.Counts.{each_halved, each_kept, given_deep, given_flat, given_from, rests_past}

-- a level rests, or gives a row of the stripe or the first below it
abbrev pub IsNear : Split → ℕ → ℕ → ℕ → ℕ → Type 0
IsNear s a b n level = given_at s a (n + 1) level ≡ given_at s a n level ⊎ (given_at s a (n + 1) level ≡ given_at s a n level + 1) × (given_at s a n level ≤ rows_each s level * b)

near_step : (start h g below t u : ℕ) → 2 * start ≤ g → g ≤ 2 * below → t ≡ taken_by start h g → u ≡ taken_by start h (g + 1) → u ≡ t ⊎ (u ≡ t + 1) × (t ≤ below)
near_step start h g below t u from to is next =
    elim (cases_eq u t) [
      | inl same ↦ inl same
      | inr other ↦ let one : u ≡ t + 1 = omega (arith, is, next, other, from) in let most : t ≤ below = omega (arith, is, next, other, from, to) in inr (one, most)
    ]

near_cases : (s : Split) (a b n level : ℕ) (deep : Bool) → nat_lt level s.down ≡ deep → rows_each s 0 * a ≤ n → n < s.height → given_at s a (n + 1) level ≡ given_at s a n level + 1 → given_at s a n level ≤ rows_each s level * b → IsNear s a b n (suc level)
near_cases s a b n level true is from room moves to =
    let less : level < s.down = ltb-true level s.down is in
    let start = rows_each s (suc level) * a in
    let least = given_from s a n level from (omega (arith, room)) in
    near_step start (rows_at s level) (given_at s a n level) (rows_each s (suc level) * b) (given_at s a n (suc level)) (given_at s a (n + 1) (suc level)) (omega (arith, least, each_halved s level a less)) (omega (arith, to, each_halved s level b less))
    (given_deep s a n level less) (given_deep s a (n + 1) level less ∙ ap (taken_by start (rows_at s level)) moves)
near_cases s a b n level false is from room moves to =
    let more : s.down ≤ level = ltb-false level s.down is in
    let here = given_flat s a n level more in
    inr (given_flat s a (n + 1) level more ∙ moves ∙ ap (λ k. k + 1) (sym here), omega (arith, here, to, each_kept s level b more))

near_all : (s : Split) (a b n level : ℕ) → rows_each s 0 * a ≤ n → n < rows_each s 0 * b → n < s.height → IsNear s a b n level
near_all s a b n zero from to room = inr (refl, omega (arith, to))
near_all s a b n (suc level) from to room =
    elim (near_all s a b n level from to room) [
      | inl rests ↦ inl (rests_past s a (n + 1) n level (suc level) (omega arith) rests)
      | inr near ↦ near_cases s a b n level (nat_lt level s.down) refl from room near.0 near.1
    ]

pub rows_near : RowsNear
rows_near s a b line level row from to room taken =
    let least = given_from s a line level from (omega (arith, room)) in
    elim (near_all s a b line level from to room) [
      | inl rests ↦ absurd (omega (arith, rests, taken.0, taken.1))
      | inr near ↦ (omega (arith, least, taken.0), omega (arith, near.1, taken.0))
    ]
