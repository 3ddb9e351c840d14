-- One component's rows of a slice, and where they stand in the lanes: the lane is the slice, the place the component.
use Rattle.std.specs.Prelude.{◌≡◌, ℕ, ◌+◌, ◌-◌, ◌/◌, ◌<◌, ◌≤◌, Bool, false, nat_eq, Option, Some, None, MatchOption, List, [], length, map, slice_index_or, ℤ}
use Rattle.std.specs.List.{Contains}
use Rattle.xs_lists.specs.Spelling.{upto}
use Rattle.xs_layout.specs.Geometry.{components_of}
use Rattle.xs_params.specs.declared.header.Header.{Header}
use Rattle.xs_params.specs.Geometry.{band_component, band_width_of, bands_of, slice_count}
use Rattle.xs_params.specs.Rows.{Rows}
use Rattle.xs_geometry.specs.SliceLines.{first_line_of, end_line_of}
use Rattle.xs_lane_core.specs.Machine.{Placing}
use Rattle.xs_lanes.specs.Filing.{placing}

-- for each band of the component, from the lowest on, its lines in the slice
pub record RowsOf : Type 0 where
  pub slice : ℕ
  pub component : ℕ
  pub last : Bool
  pub bands : List (List (List ℤ))

-- what contracts see of a value of the lanes; there is one without rows
abbrev pub Carried : Type 0
Carried = Option RowsOf

-- where a value without rows would stand: there is no such lane, and no such place
abbrev pub nowhere : ℕ
nowhere = 4294967295

abbrev pub slice_of : Carried → ℕ
slice_of None = nowhere
slice_of (Some x) = x.slice

abbrev pub component_in : Carried → ℕ
component_in None = nowhere
component_in (Some x) = x.component

abbrev pub is_last : Carried → Bool
is_last None = false
is_last (Some x) = x.last

abbrev pub parts : Placing Carried
parts = placing slice_of component_in is_last

-- the row of a band's line, of which there may be none
abbrev pub row_of_component : Carried → ℕ → ℕ → List ℤ
row_of_component None number line = []
row_of_component (Some x) number line = slice_index_or (slice_index_or x.bands number []) line []

-- The line of the band is one of the slice's.
pub record IsSliceLine (h : Header) (slice band line : ℕ) : Type 0 where
  pub band_there : band < bands_of h
  pub from : first_line_of h slice band ≤ line
  pub below : line < end_line_of h slice band

-- The value has the rows of these coefficients for each band of its component, those of its slice and no others, and closes the lane
-- if its component is the last.
pub record Carries (h : Header) (rows : Rows) (x : RowsOf) : Type 0 where
  pub slice : x.slice < slice_count h
  pub component : x.component < components_of h.shape.format
  pub last : x.last ≡ nat_eq (x.component + 1) (components_of h.shape.format)
  pub count : length x.bands ≡ bands_of h / components_of h.shape.format
  pub lines : (band : ℕ) → band < bands_of h → band_component h band ≡ x.component
      → first_line_of h x.slice band + length (slice_index_or x.bands (band / components_of h.shape.format) []) ≡ end_line_of h x.slice band
  pub row : (band line : ℕ) → IsSliceLine h x.slice band line → band_component h band ≡ x.component
      → row_of_component (Some x) (band / components_of h.shape.format) (line - first_line_of h x.slice band)
      ≡ map (rows band line) (upto (band_width_of h band))

abbrev pub CarriesRows : Header → Rows → Carried → Type 0
CarriesRows h rows v = MatchOption v ⊥ (Carries h rows)

-- a value of this component is among them
abbrev pub HasComponent : List Carried → ℕ → Type 0
HasComponent values component = (v : Carried) × Contains values v × (component_in v ≡ component)
