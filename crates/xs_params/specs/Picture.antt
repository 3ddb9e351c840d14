-- A picture, and the raw picture that files hold: 'Samples, scaling and colour'; the accepted shapes: 'Picture header'.
use Rattle.std.specs.Prelude.{◌≡◌, ℕ, ◌+◌, ◌-◌, ◌*◌, ◌^◌, ◌<◌, ◌≤◌, ◌⊎◌, nat_eq, nat_lt, if◌then◌else◌, Option, List, [], ◌∷◌, ◌++◌, take, drop, length, map, sum_by, position, slice_index, slice_set, All}
use Rattle.std.specs.Int.{from_le_bytes, to_le_bytes, w16}
use Rattle.std.specs.List.{flat_map}
use Rattle.std.specs.Option.{option_map}
use Rattle.xs_lists.specs.Spelling.{upto}
use Rattle.xs_layout.specs.declared.Shape.{Shape}
use Rattle.xs_layout.specs.Geometry.{components_of, component_width_of}
use Rattle.xs_layout.specs.Limits.{least_width, most_width, least_height, most_height, most_area, IsDepth}

-- Shapes

-- the shapes that a header may have
pub record IsShape (shape : Shape) : Type 0 where
  pub width : (least_width ≤ shape.width) × (shape.width ≤ most_width)
  pub height : (least_height ≤ shape.height) × (shape.height ≤ most_height)
  pub area : shape.width * shape.height ≤ most_area
  pub depth : IsDepth shape.depth

-- the columns of a component
abbrev pub width_of : Shape → ℕ → ℕ
width_of shape component = component_width_of shape.format shape.width component

-- the samples of a component
abbrev pub plane_size : Shape → ℕ → ℕ
plane_size shape component = width_of shape component * shape.height

-- where a component's samples begin: after those of the components before it
abbrev pub plane_first : Shape → ℕ → ℕ
plane_first shape component = sum_by (plane_size shape) (upto component)

-- the samples of all components
abbrev pub sample_count : Shape → ℕ
sample_count shape = plane_first shape (components_of shape.format)

-- where a row's samples begin: after those of the rows before it
abbrev pub row_first : Shape → ℕ → ℕ → ℕ
row_first shape component row = plane_first shape component + row * width_of shape component

-- there is such a row
pub record IsRow (shape : Shape) (component row : ℕ) : Type 0 where
  pub component_there : component < components_of shape.format
  pub row_there : row < shape.height

-- there is such a place
pub record IsPlace (shape : Shape) (component row column : ℕ) : Type 0 where
  pub row_there : IsRow shape component row
  pub column_there : column < width_of shape component

-- a row ends before each later one begins
abbrev pub RowsApart : Type 0
RowsApart = (shape : Shape) (component row other later : ℕ) → IsRow shape component row → IsRow shape other later
    → (component < other) ⊎ ((component ≡ other) × (row < later)) → row_first shape component row + width_of shape component ≤ row_first shape other later

-- Pictures

-- a picture: its samples in the order of the raw picture, which is component after component and row after row
pub record Picture : Type 0 where
  pub shape : Shape
  pub samples : List ℕ

-- each sample has no more bits than the depth
abbrev pub AreSamples : ℕ → List ℕ → Type 0
AreSamples depth samples = All (λ sample. sample < 2 ^ depth) samples

-- a picture has an accepted shape, and so many samples, which have no more bits than the depth
pub record IsPicture (picture : Picture) : Type 0 where
  pub shaped : IsShape picture.shape
  pub size : length picture.samples ≡ sample_count picture.shape
  pub small : AreSamples picture.shape.depth picture.samples

-- the sample of a component at a row and a column
abbrev pub sample_at : Picture → ℕ → ℕ → ℕ → ℕ
sample_at picture component row column = slice_index picture.samples (row_first picture.shape component row + column)

-- the samples of a row of a component
abbrev pub samples_of_row : Picture → ℕ → ℕ → List ℕ
samples_of_row picture component row = take (width_of picture.shape component) (drop (row_first picture.shape component row) picture.samples)

-- the picture with another sample at one place
abbrev pub with_sample : Picture → ℕ → ℕ → ℕ → ℕ → Picture
with_sample picture component row column sample =
    record { shape = picture.shape; samples = slice_set picture.samples (row_first picture.shape component row + column) sample }

-- a list with other numbers from a place on
abbrev pub put_at : List ℕ → ℕ → List ℕ → List ℕ
put_at list place numbers = take place list ++ numbers ++ drop (place + length numbers) list

-- the picture with other samples in one row
abbrev pub with_samples : Picture → ℕ → ℕ → List ℕ → Picture
with_samples picture component row samples = record { shape = picture.shape; samples = put_at picture.samples (row_first picture.shape component row) samples }

-- Raw pictures

-- a sample has one byte at depth 8, and two at depths 10 and 12
abbrev pub sample_size : ℕ → ℕ
sample_size depth = if nat_eq depth 8 then 1 else 2

abbrev pub raw_size : Shape → ℕ
raw_size shape = sample_count shape * sample_size shape.depth

-- the bytes of a sample, the low one first
abbrev pub sample_bytes : ℕ → ℕ → List ℕ
sample_bytes depth sample = if nat_eq depth 8 then sample ∷ [] else to_le_bytes w16 sample

abbrev pub raw_bytes : Picture → List ℕ
raw_bytes picture = flat_map (sample_bytes picture.shape.depth) picture.samples

-- the numbers of two bytes each, the low one first
abbrev pub pairs_of : List ℕ → List ℕ
pairs_of [] = []
pairs_of (low ∷ []) = low ∷ []
pairs_of (low ∷ high ∷ bytes) = (low + 256 * high) ∷ pairs_of bytes

-- the same of pairs of bytes
abbrev pub pair_numbers : List (List ℕ) → List ℕ
pair_numbers pairs = map (from_le_bytes w16) pairs

-- the samples of a raw picture
abbrev pub samples_of : ℕ → List ℕ → List ℕ
samples_of depth bytes = if nat_eq depth 8 then bytes else pairs_of bytes

abbrev pub picture_of_raw : Shape → List ℕ → Picture
picture_of_raw shape bytes = record { shape = shape; samples = samples_of shape.depth bytes }

-- the first of some samples that has more bits than the depth
abbrev pub first_deeper : ℕ → List ℕ → Option ℕ
first_deeper depth samples = position (nat_lt (2 ^ depth - 1)) samples

-- the place of the first byte of the first sample of a raw picture that has more bits than the depth
abbrev pub over_sample : Picture → Option ℕ
over_sample picture = option_map (λ at. at * sample_size picture.shape.depth) (first_deeper picture.shape.depth picture.samples)
