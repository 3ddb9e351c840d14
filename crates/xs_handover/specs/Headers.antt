-- When two headers cut a picture into the same bands and slices.
use Rattle.std.specs.Prelude.{◌≡◌}
use Rattle.xs_params.specs.declared.header.Header.{Header}

pub record HaveSameLayout (h other : Header) : Type 0 where
  pub shape : h.shape ≡ other.shape
  pub hsl : h.hsl ≡ other.hsl
  pub nlx : h.nlx ≡ other.nlx
  pub nly : h.nly ≡ other.nly
