-- The rows of the slices that tests make.
use Rattle.std.specs.Prelude.{ℕ, List}
use Rattle.xs_params.specs.declared.header.Header.{Header}
use Rattle.xs_geometry.specs.SliceLines.{AreLinesOf, BandLines}
use Rattle.xs_magnitudes.specs.Small.{HaveSmallRows}

-- the rows of a slice, with coefficients as small as those of a codestream
pub record IsMade (h : Header) (slice : ℕ) (bands : List BandLines) : Type 0 where
  pub lines : AreLinesOf h slice bands
  pub small : HaveSmallRows bands
