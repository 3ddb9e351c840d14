-- The coefficients of a picture, before they are quantised: 'Samples, scaling and colour', '5/3 wavelet' and the fold of 'Rate choice'.
use Rattle.std.specs.Prelude.{ℕ, ℤ}
use Rattle.xs_params.specs.declared.header.Header.{Header}
use Rattle.xs_params.specs.Picture.{Picture, sample_at}
use Rattle.xs_signal.specs.Wavelet.{band_plane}
use Rattle.xs_signal.specs.Picture.{Signal, coefficients_of}
pub use Rattle.xs_params.specs.Rows.{Rows, padded}
use Rattle.xs_params.specs.Geometry.{component_width, band_component, band_type_of}

-- how a picture with this header is taken apart
abbrev pub signal_of : Header → Signal
signal_of h = record {
  split = λ component. record { width = component_width h component; height = h.shape.height; across = h.nlx; down = h.nly };
  depth = h.shape.depth;
  bw = h.bw;
  fq = h.fq;
  colour = h.colour;
}

-- the rows of a picture
abbrev pub rows_of_picture : Header → Picture → ℕ → ℕ → ℕ → ℤ
rows_of_picture h picture = padded h (λ band. band_plane (coefficients_of (signal_of h) (sample_at picture) (band_component h band)) (band_type_of h band))
