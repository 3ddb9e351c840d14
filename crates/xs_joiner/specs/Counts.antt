-- How many rows the levels of a component's inverse have given: '5/3 wavelet'.
use Rattle.std.specs.Prelude.{ℕ, zero, suc, ◌+◌, ◌-◌, ◌*◌, ◌/◌, min, nat_lt, if◌then◌else◌}
use Rattle.xs_signal.specs.Wavelet.{Split, low_count}
use Rattle.xs_signal.specs.Stripe.{rows_at, rows_each}

-- The number of the row that a level of so many rows takes next when `given` is the one that it gives next. It began with
-- the row `start`, and gave from the row 2 start on. An odd row makes the low-pass row below it necessary.
abbrev pub taken_by : ℕ → ℕ → ℕ → ℕ
taken_by start height given = min (start + (given - 2 * start) / 2 + min (given - 2 * start) 1) (low_count height)

-- the number of the row that each level gives next, where that of level 0 is `given`; the component was begun at precinct `first`
abbrev pub given_at : Split → ℕ → ℕ → ℕ → ℕ
given_at s first given zero = given
given_at s first given (suc level) = if nat_lt level s.down then taken_by (rows_each s (suc level) * first) (rows_at s level) (given_at s first given level) else given_at s first given level
