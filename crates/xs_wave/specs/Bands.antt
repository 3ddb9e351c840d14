-- The bands of a component as planes: 'Band geometry' and '5/3 wavelet'.
use Rattle.std.specs.Prelude.{◌≡◌, ℕ, ◌+◌, ◌-◌, ◌*◌, ◌^◌, ◌<◌, ◌≤◌, List, [], length, slice_index_or, ℤ, if◌then◌else◌, nat_lt}
use Rattle.xs_layout.specs.Geometry.{BandType, ll, band_types, side_size}
use Rattle.xs_signal.specs.Wavelet.{Split, Bands, band_plane, rows_low, rows_high, columns_high, columns_kept}
use Rattle.xs_wave.specs.Within.{SameWithin}
use Rattle.xs_wave.specs.Planes.{plane_of, HasSize}

-- a component as pictures have it: its size, and how many levels it is split across and down
pub record IsComponent (s : Split) : Type 0 where
  pub some : 1 ≤ s.across
  pub few : s.across ≤ 5
  pub two : s.down ≤ 2
  pub deep : s.down ≤ s.across
  pub wide : 2 ^ s.across ≤ s.width
  pub high : 4 ≤ s.height
  pub width : s.width ≤ 8192
  pub height : s.height ≤ 8192

-- how a plane with these rows is split
abbrev pub split_of : List (List ℤ) → ℕ → ℕ → Split
split_of rows nlx nly = record { width = length (slice_index_or rows 0 []); height = length rows; across = nlx; down = nly }

-- how a plane of this size is split
abbrev pub split_at : ℕ → ℕ → ℕ → ℕ → Split
split_at width height nlx nly = record { width = width; height = height; across = nlx; down = nly }

-- how many bands a component has
unfoldable pub band_count : Split → ℕ
band_count s = length (band_types s.across s.down)

-- the type of a component's band with this number
abbrev pub type_at : Split → ℕ → BandType
type_at s number = slice_index_or (band_types s.across s.down) number (ll 0 0)

-- how many columns and rows a band of this type has
abbrev pub columns_in : Split → BandType → ℕ
columns_in s type = side_size s.width type.across type.high_across

abbrev pub rows_in : Split → BandType → ℕ
rows_in s type = side_size s.height type.down type.high_down

-- the band with this number has so many columns and rows
pub record IsBandSize (s : Split) (number columns rows : ℕ) : Type 0 where
  pub columns_are : columns ≡ columns_in s (type_at s number)
  pub rows_are : rows ≡ rows_in s (type_at s number)

-- the plane with this number has the size of its band
abbrev pub HasBandSize : Split → List (List (List ℤ)) → ℕ → Type 0
HasBandSize s planes number = HasSize (columns_in s (type_at s number)) (rows_in s (type_at s number)) (slice_index_or planes number [])

-- and it holds the entries of its band among these
abbrev pub ShowsBand : Split → List (List (List ℤ)) → Bands → ℕ → Type 0
ShowsBand s planes b number = SameWithin (columns_in s (type_at s number)) (rows_in s (type_at s number)) (plane_of (slice_index_or planes number [])) (band_plane b (type_at s number))

-- a plane for each band, of its size
pub record AreBandPlanes (s : Split) (planes : List (List (List ℤ))) : Type 0 where
  pub as_many : length planes ≡ band_count s
  pub sizes : (number : ℕ) → number < band_count s → HasBandSize s planes number

-- the planes hold the entries of these bands
abbrev pub ShowBands : Split → List (List (List ℤ)) → Bands → Type 0
ShowBands s planes b = (number : ℕ) → number < band_count s → ShowsBand s planes b number

-- the number of the first band of a level; LH and HH follow HL where the level is split down too
abbrev pub first_number : Split → ℕ → ℕ
first_number s level = if nat_lt s.down level then s.across - level + 1 else s.across - s.down + 1 + 3 * (s.down - level)

-- the bands that these planes hold
abbrev pub bands_in : Split → List (List (List ℤ)) → Bands
bands_in s planes = record {
  ll = plane_of (slice_index_or planes 0 []);
  hl = λ level. plane_of (slice_index_or planes (first_number s level) []);
  lh = λ level. plane_of (slice_index_or planes (first_number s level + 1) []);
  hh = λ level. plane_of (slice_index_or planes (first_number s level + 2) []);
}

-- the bands of the step from `level` to the next, of the part that is split there
abbrev pub level_bands : Split → ℕ → (ℕ → ℕ → ℤ) → Bands
level_bands s level p = record {
  ll = rows_low s level (columns_kept s level p);
  hl = λ _. rows_high s level (columns_kept s level p);
  lh = λ _. rows_low s level (columns_high s level p);
  hh = λ _. rows_high s level (columns_high s level p);
}
