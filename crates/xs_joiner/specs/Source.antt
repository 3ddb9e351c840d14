-- The rows of the bands that a joiner takes: '5/3 wavelet'.
use Rattle.std.specs.Prelude.{◌≡◌, ℕ, ◌+◌, List, length, ℤ}
use Rattle.xs_signal.specs.Lines.{entries_of, Shows}
use Rattle.xs_signal.specs.Wavelet.{Bands}
use Rattle.xs_joiner.specs.Units.{BelowUnits}
use Rattle.xs_joiner.specs.declared.source.Band.{Band}
use Rattle.xs_joiner.specs.declared.source.Band.TheVariants.{Lowest, Hl, Lh, Hh}

-- the plane of one of the bands; those of level 0 have the number 1
abbrev pub plane_in : Bands → Band → ℕ → ℕ → ℤ
plane_in b Lowest = b.ll
plane_in b (Hl level) = b.hl (level + 1)
plane_in b (Lh level) = b.lh (level + 1)
plane_in b (Hh level) = b.hh (level + 1)

-- the rows that are there are the rows of these bands
abbrev pub ShowBands : (Band → ℕ → List ℤ) → Bands → Type 0
ShowBands rows b = (band : Band) (row : ℕ) → Shows (rows band row) (plane_in b band row)
