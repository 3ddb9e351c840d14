-- The picture that rows of coefficients stand for: '5/3 wavelet', and 'Samples, scaling and colour'.
use Rattle.std.specs.Prelude.{◌≡◌, ℕ, ◌+◌, ◌-◌, ◌*◌, nat_lt, if◌then◌else◌}
use Rattle.xs_layout.specs.Geometry.{components_of}
use Rattle.xs_params.specs.declared.header.Header.{Header}
use Rattle.xs_params.specs.Picture.{Picture, IsPicture, IsPlace, sample_at}
use Rattle.xs_signal.specs.Wavelet.{Bands}
use Rattle.xs_signal.specs.Picture.{decoded_picture}
use Rattle.xs_grammar.specs.Precinct.{Content}
use Rattle.xs_rate.specs.Coefficients.{Rows, signal_of}
use Rattle.xs_reading.specs.Rows.{dequantised_rows}

-- the number of the type HL of a level; LH and HH of a level that is split both ways are the next two
abbrev pub level_type : Header → ℕ → ℕ
level_type h level = if nat_lt h.nly level then h.nlx - level + 1 else h.nlx - h.nly + 1 + 3 * (h.nly - level)

-- the band of a type and a component
abbrev pub band_number : Header → ℕ → ℕ → ℕ
band_number h type component = type * components_of h.shape.format + component

-- the bands of a component
abbrev pub component_bands : Header → Rows → ℕ → Bands
component_bands h rows component = record {
  ll = rows (band_number h 0 component);
  hl = λ level. rows (band_number h (level_type h level) component);
  lh = λ level. rows (band_number h (level_type h level + 1) component);
  hh = λ level. rows (band_number h (level_type h level + 2) component);
}

-- the sample of a component at a row and a column
abbrev pub decoded_sample : Header → Rows → ℕ → ℕ → ℕ → ℕ
decoded_sample h rows = decoded_picture (signal_of h) (component_bands h rows)

-- the picture is that of the rows
pub record IsPictureOf (h : Header) (rows : Rows) (picture : Picture) : Type 0 where
  pub whole : IsPicture picture
  pub shape : picture.shape ≡ h.shape
  pub samples : (component row column : ℕ) → IsPlace h.shape component row column → sample_at picture component row column ≡ decoded_sample h rows component row column

-- the picture is the decoding of a content
abbrev pub IsDecodingOf : Header → Content → Picture → Type 0
IsDecodingOf h content = IsPictureOf h (dequantised_rows h content)
