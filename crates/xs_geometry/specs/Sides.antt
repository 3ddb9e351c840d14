-- Band types.
use Rattle.std.specs.Prelude.{ℕ, zero, suc}
use Rattle.xs_layout.specs.Geometry.{BandType, hl, lh, hh}
use Rattle.xs_geometry.specs.declared.kinds.BandKind.{BandKind}

-- HL, LH and HH, numbered in this order
abbrev pub deep_side : ℕ → ℕ → BandType
deep_side level zero = hl level level
deep_side level (suc zero) = lh level level
deep_side level (suc (suc side)) = hh level level

-- the band type of a kind
abbrev pub type_of : BandKind → BandType
type_of kind = record { across = kind.across; down = kind.down; high_across = kind.high_across; high_down = kind.high_down }
