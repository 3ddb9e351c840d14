-- The headers that are accepted: 'Picture header'.
use Rattle.std.specs.Prelude.{◌≡◌, ◌-◌, ◌^◌, ◌≤◌, min, true, length}
use Rattle.xs_layout.specs.declared.Format.TheVariants.{C444}
use Rattle.xs_layout.specs.Geometry.{components_of}
use Rattle.xs_layout.specs.Limits.{most_across, most_down, most_slices, most_run_mode, IsPrecision, fq_of}
use Rattle.xs_params.specs.declared.header.Header.{Header}
use Rattle.xs_params.specs.Geometry.{component_width, bands_of, slice_count}
use Rattle.xs_params.specs.Picture.{IsShape}

-- the ranges of the geometry of a header
pub record IsGeometry (h : Header) : Type 0 where
  pub shape : IsShape h.shape
  pub hsl : 1 ≤ h.hsl
  pub nlx : (1 ≤ h.nlx) × (h.nlx ≤ most_across)
  pub nly : h.nly ≤ min most_down h.nlx
  pub slices : slice_count h ≤ most_slices
  -- the last component, which is the narrowest, has a coefficient on the low side
  pub narrow : 2 ^ h.nlx ≤ component_width h (components_of h.shape.format - 1)

-- the values that are accepted
pub record IsAccepted (h : Header) : Type 0 where
  pub geometry : IsGeometry h
  pub bits : IsPrecision h.bw × (h.fq ≡ fq_of h.bw)
  -- the colour transform wants three components of one size
  pub colour : h.colour ≡ true → h.shape.format ≡ C444
  pub run_mode : h.run_mode ≤ most_run_mode
  pub weights : length h.weights ≡ bands_of h
