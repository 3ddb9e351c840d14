-- Laws of decoding.
use Rattle.std.specs.Prelude.{◌≡◌, ℕ, ◌<◌}
use Rattle.xs_params.specs.declared.header.Header.{Header}
use Rattle.xs_params.specs.Picture.{IsPlace}
use Rattle.xs_signal.specs.Wavelet.{band_plane}
use Rattle.xs_params.specs.Geometry.{bands_of, band_component, band_type_of, band_width_of, band_height_of}
use Rattle.xs_params.specs.Accepted.{IsAccepted}
use Rattle.xs_rate.specs.Coefficients.{Rows}
use Rattle.xs_decoding.specs.Decoded.{component_bands, decoded_sample}

-- the plane of each band is found by the band's type
abbrev pub BandsByType : Type 0
BandsByType = (h : Header) (rows : Rows) (band : ℕ) → IsAccepted h → band < bands_of h
    → band_plane (component_bands h rows (band_component h band)) (band_type_of h band) ≡ rows band

-- two rows of coefficients that are the same where the bands are
abbrev pub SameRowsWithin : Header → Rows → Rows → Type 0
SameRowsWithin h rows other =
    (band line column : ℕ) → band < bands_of h → line < band_height_of h band → column < band_width_of h band → rows band line column ≡ other band line column

-- have the same picture
abbrev pub DecodedWithin : Type 0
DecodedWithin = (h : Header) (rows other : Rows) (component row column : ℕ) → IsAccepted h → SameRowsWithin h rows other → IsPlace h.shape component row column
    → decoded_sample h rows component row column ≡ decoded_sample h other component row column
