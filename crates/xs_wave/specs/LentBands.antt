-- What the planes of the bands are after one of them was lent.
use Rattle.std.specs.Prelude.{ℕ, ℤ, List, slice_set}
use Rattle.std.specs.Borrow.{Lends, MutBor, Fml}
use Rattle.xs_wave.specs.contracts.bands.BandPlanes.{the_row as bands_row}
use Rattle.xs_wave.specs.contracts.planes.Plane.{the_row as plane_row}

-- the plane with this number is what was left behind the reference
abbrev pub LendsPlane : MutBor (List (List (List ℤ))) → ℕ → MutBor (List (List ℤ)) → Fml
LendsPlane s number r = Lends bands_row plane_row s r (slice_set s.now number)
