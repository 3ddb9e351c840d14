-- A component that is transformed from the top: which rows of its bands are known after some of its rows.
use Rattle.std.specs.Prelude.{◌≡◌, ℕ, ◌+◌, ◌-◌, ◌*◌, ◌/◌, ◌^◌, ◌<◌, ◌≤◌, ◌⊎◌, true, false, nat_eq, if◌then◌else◌, List, [], length, slice_index_or, ℤ}
use Rattle.xs_layout.specs.Geometry.{components_of}
use Rattle.xs_params.specs.declared.header.Header.{Header}
use Rattle.xs_params.specs.Accepted.{IsAccepted}
use Rattle.xs_params.specs.Geometry.{band_component, band_type_of, bands_of, component_width}
use Rattle.xs_geometry.specs.SliceLines.{end_line_of, first_line_of}
use Rattle.xs_splitter.specs.declared.splitter.Splitter.{Splitter}
use Rattle.xs_picture.specs.declared.encode.analysis.Component.{Component}
use Rattle.xs_picture.specs.declared.encode.colours.DifferenceRows.{DifferenceRows}
use Rattle.xs_picture.specs.Analysed.{IsGiven, IsSplitUp, folded_row, rows_by_type}
use Rattle.xs_enc_lanes.specs.declared.lines.LineRows.{LineRows}
use Rattle.xs_enc_lanes.specs.declared.lines.LineRows.TheVariants.{Samples, Colours}
use Rattle.xs_enc_lanes.specs.declared.transform.Transform.{Transform}
use Rattle.xs_enc_lanes.specs.Rows.{IsSliceLine}

-- a component of a picture that has the shape of an accepted header
pub record IsComponentOf (c : Component) : Type 0 where
  pub accepted : IsAccepted c.header.now
  pub shape : c.picture.now.shape ≡ c.header.now.shape
  pub there : c.number < components_of c.header.now.shape.format

-- of the rows of three colours that of one, by the number of its component
abbrev pub colour_in : ℕ → DifferenceRows → List ℤ
colour_in component rows = if nat_eq component 0 then rows.luma.items else (if nat_eq component 1 then rows.first.items else rows.second.items)

-- the numbers of a component's line
abbrev pub numbers_of_rows : ℕ → LineRows → List ℤ
numbers_of_rows component (Samples row) = row.items
numbers_of_rows component (Colours rows) = colour_in component rows

-- the rows of three colours have this width
pub record HaveLineWidth (width : ℕ) (rows : DifferenceRows) : Type 0 where
  pub luma : length rows.luma.items ≡ width
  pub first : length rows.first.items ≡ width
  pub second : length rows.second.items ≡ width

-- the lines of the component can be made in the rows
abbrev pub FitLines : Component → LineRows → Type 0
FitLines c (Samples row) = (c.header.now.colour ≡ false) × (length row.items ≡ component_width c.header.now c.number)
FitLines c (Colours rows) = (c.header.now.colour ≡ true) × HaveLineWidth c.header.now.shape.width rows

-- so many of its rows were taken, or all; those of bands that stand beside the lowest band's from one on are kept
pub record IsUnderWay (c : Component) (t : Transform) : Type 0 where
  pub same : t.component ≡ c
  pub component : IsComponentOf c
  pub rows : FitLines c t.rows
  pub given : t.done ≡ false → IsGiven c.header.now c.picture.now c.number t.kept t.taken t.splitter
  pub most : t.taken ≤ c.header.now.shape.height
  pub split : t.done ≡ true → IsSplitUp c.header.now c.picture.now c.number t.kept t.splitter

-- so many rows were taken at least, or all
abbrev pub HasReached : ℕ → Transform → Type 0
HasReached rows t = (t.done ≡ true) ⊎ (rows ≤ t.taken)

-- the rows of a slice and of those behind it are kept
abbrev pub KeepsFrom : ℕ → Transform → Type 0
KeepsFrom slice t = t.kept ≤ slice * t.component.header.now.hsl

-- so many rows of a component are enough for the first slices up to this one: what lies below them has no weight there
abbrev pub rows_for : Header → ℕ → ℕ
rows_for h slice = ((slice + 1) * h.hsl + 1) * 2 ^ h.nly - 1

-- the rows of a band of the component
abbrev pub band_rows_of : Header → Splitter → ℕ → List (List ℤ)
band_rows_of h c band = rows_by_type c (band_type_of h band)

-- those of a band in the slice are known
abbrev pub KnowsBand : Header → ℕ → ℕ → Splitter → Type 0
KnowsBand h slice band c = (line : ℕ) → line < end_line_of h slice band → line < length (band_rows_of h c band)

-- and of all bands of the component
abbrev pub KnowsSlice : Header → ℕ → ℕ → Splitter → Type 0
KnowsSlice h slice component c = (band : ℕ) → band < bands_of h → band_component h band ≡ component → KnowsBand h slice band c

-- the rows of a band's lines in the slice, folded
pub record AreBandRows (h : Header) (slice band : ℕ) (c : Splitter) (rows : List (List ℤ)) : Type 0 where
  pub count : first_line_of h slice band + length rows ≡ end_line_of h slice band
  pub each : (line : ℕ) → IsSliceLine h slice band line → slice_index_or rows (line - first_line_of h slice band) [] ≡ folded_row h.fq (slice_index_or (band_rows_of h c band) line [])

-- for each band of the component those rows
pub record AreFoldedBands (h : Header) (slice component : ℕ) (c : Splitter) (bands : List (List (List ℤ))) : Type 0 where
  pub count : length bands ≡ bands_of h / components_of h.shape.format
  pub each : (band : ℕ) → band < bands_of h → band_component h band ≡ component → AreBandRows h slice band c (slice_index_or bands (band / components_of h.shape.format) [])
