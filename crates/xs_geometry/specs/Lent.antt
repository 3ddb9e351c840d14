-- What rows of coefficients are after one of them was lent.
use Rattle.std.specs.Prelude.{ℕ, ℤ, List}
use Rattle.std.specs.Borrow.{Lends, MutBor, Fml, Array, i32}
use Rattle.xs_geometry.specs.SliceLines.{BandLines}
use Rattle.xs_geometry.specs.Written.{with_lent}
use Rattle.xs_geometry.specs.contracts.rows.SliceRows.{the_row}

-- the row of a line of a band is what was left behind the reference
abbrev pub LendsRow : MutBor (List BandLines) → ℕ → ℕ → MutBor (List ℤ) → Fml
LendsRow s band line r = Lends the_row (Array i32 0) s r (with_lent s.now band line)
