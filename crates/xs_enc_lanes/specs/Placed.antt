-- The rows of a slice, into which the rows of values are put.
use Rattle.std.specs.Prelude.{◌≡◌, ◌≢◌, ℕ, MatchOption, List, length, map, All, ℤ}
use Rattle.xs_lists.specs.Spelling.{upto}
use Rattle.xs_params.specs.declared.header.Header.{Header}
use Rattle.xs_params.specs.Geometry.{band_component, band_width_of}
use Rattle.xs_params.specs.Rows.{Rows}
use Rattle.xs_signal.specs.Lines.{entries_of}
use Rattle.xs_geometry.specs.SliceLines.{BandLines, AreLinesOf, HasLine, row_at}
use Rattle.xs_geometry.specs.Written.{with_row}
use Rattle.xs_rate.specs.Laws.{IsSmallRow}
use Rattle.xs_enc_lanes.specs.Rows.{Carried, Carries, IsSliceLine, HasComponent, component_in}

-- the row of a line is that of the coefficients
abbrev pub IsRowOf : Header → Rows → List BandLines → ℕ → ℕ → Type 0
IsRowOf h rows bands band line = row_at bands band line ≡ map (rows band line) (upto (band_width_of h band))

-- each row's magnitudes have 15 bits at most
abbrev pub EachSmall : List BandLines → Type 0
EachSmall bands = (band line : ℕ) → HasLine bands band line → IsSmallRow (entries_of (row_at bands band line))

-- the row was put in the place of another of its length; where the lengths differ, nothing is changed
pub record IsRowPut (old : List BandLines) (band line : ℕ) (row : List ℤ) (new : List BandLines) : Type 0 where
  pub whole : length row ≡ length (row_at old band line) → new ≡ with_row old band line row
  pub other : length row ≢ length (row_at old band line) → new ≡ old

-- Rows were put into those of a slice. Whatever the coefficients are of which A holds: what was theirs still is, and so is
-- each line that is done.
pub record AreRowsPut (h : Header) (slice : ℕ) (A : Rows → Type 0) (old new : List BandLines) (done : ℕ → ℕ → Type 0) : Type 0 where
  pub lines : AreLinesOf h slice new
  pub small : EachSmall new
  pub kept : (rows : Rows) → A rows → (band line : ℕ) → IsSliceLine h slice band line → IsRowOf h rows old band line → IsRowOf h rows new band line
  pub theirs : (rows : Rows) → A rows → (band line : ℕ) → IsSliceLine h slice band line → done band line → IsRowOf h rows new band line

-- the value is of this slice, and has the rows of the coefficients
abbrev pub CarriesIn : Header → ℕ → Carried → Rows → Type 0
CarriesIn h slice v rows = MatchOption v ⊥ (λ x. Carries h rows x × (x.slice ≡ slice))

-- the lines of a band
abbrev pub IsOfBand : ℕ → ℕ → ℕ → Type 0
IsOfBand band other line = other ≡ band

-- the lines of the bands of a value's component
abbrev pub IsOfValue : Header → Carried → ℕ → ℕ → Type 0
IsOfValue h v band line = band_component h band ≡ component_in v

-- all values are of the slice, and have the rows of the coefficients
abbrev pub AllCarry : Header → ℕ → List Carried → Rows → Type 0
AllCarry h slice values rows = All (λ (v : Carried). CarriesIn h slice v rows) values

-- The rows of a slice hold what is in some values: whatever the coefficients are that all of them have, each line of the values' components is
-- that of the coefficients.
pub record AreGathered (h : Header) (slice : ℕ) (values : List Carried) (bands : List BandLines) : Type 0 where
  pub lines : AreLinesOf h slice bands
  pub small : EachSmall bands
  pub theirs : (rows : Rows) → AllCarry h slice values rows → (band line : ℕ) → IsSliceLine h slice band line → HasComponent values (band_component h band) → IsRowOf h rows bands band line
