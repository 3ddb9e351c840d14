-- How far a stripe of lines looks: a law of '5/3 wavelet'.
use Rattle.std.specs.Prelude.{ℕ, ◌*◌, ◌<◌, ◌≤◌}
use Rattle.xs_signal.specs.Wavelet.{Split}
use Rattle.xs_signal.specs.Stripe.{rows_each}
use Rattle.xs_joiner.specs.Chain.{IsTaken}

-- For the lines of the precincts from a on up to b, no row is taken above the first of precinct a or below the first of
-- precinct b.
abbrev pub RowsNear : Type 0
RowsNear = (s : Split) (a b line level row : ℕ) → rows_each s 0 * a ≤ line → line < rows_each s 0 * b → line < s.height → IsTaken s a line level row → (rows_each s level * a ≤ row) × (row ≤ rows_each s level * b)
