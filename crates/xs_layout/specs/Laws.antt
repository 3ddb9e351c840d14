-- Laws of the band geometry.
use Rattle.std.specs.Prelude.{◌≡◌, ℕ, ◌+◌, ◌*◌, ◌/◌, ◌≤◌, length}
use Rattle.xs_layout.specs.Geometry.{low_size, high_size, band_types}

-- the two sides of a level make up the low side of the level before, and the low side has the middle one
abbrev pub SidesMakeUp : Type 0
SidesMakeUp = (n level : ℕ) → (low_size n (level + 1) ≡ (low_size n level + 1) / 2) × (low_size n (level + 1) + high_size n (level + 1) ≡ low_size n level)

-- there are as many band types as the formula says
abbrev pub TypesCounted : Type 0
TypesCounted = (nlx nly : ℕ) → nly ≤ nlx → length (band_types nlx nly) ≡ 2 * nly + nlx + 1
