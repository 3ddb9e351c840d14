-- What a plane is after a row of it was lent.
use Rattle.std.specs.Prelude.{ℕ, ℤ, List, ◌++◌, take, drop}
use Rattle.std.specs.Borrow.{Lends, MutBor, Fml, Array, i64}
use Rattle.xs_wave.specs.Rows.{over}
use Rattle.xs_wave.specs.contracts.planes.Plane.{the_row}

-- Row `at` of the plane is what was left behind the reference, which is as long: the numbers stand one row after the other,
-- and what was left is written over them from that row on.
abbrev pub LendsPlaneRow : MutBor (List (List ℤ)) → ℕ → MutBor (List ℤ) → Fml
LendsPlaneRow s at r = Lends the_row (Array i64 0) s r (λ w. take at s.now ++ over (drop at s.now) w)
