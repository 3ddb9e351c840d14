-- What a slice shows of the coefficients of a picture, and what it hands to its neighbours: 'Band geometry' and '5/3 wavelet'.
use Rattle.std.specs.Prelude.{◌≡◌, ◌≢◌, ℕ, ◌-◌, ◌<◌, true, if◌then◌else◌, List, [], length, slice_index_or, ℤ}
use Rattle.xs_signal.specs.Lines.{Shows, entries_of}
use Rattle.xs_params.specs.declared.header.Header.{Header}
use Rattle.xs_params.specs.Geometry.{bands_of, band_type_of, band_width_of}
use Rattle.xs_geometry.specs.SliceLines.{BandLines, HasLine, lines_at, row_at, first_line_of, end_line_of}
use Rattle.xs_rate.specs.Coefficients.{Rows}
use Rattle.xs_rate.specs.Laws.{IsSmallRow}
use Rattle.xs_stripe.specs.Source.{IsBandRow}

-- each coefficient of a slice has 15 bits
abbrev pub AreSmallRows : List BandLines → Type 0
AreSmallRows body = (band line : ℕ) → HasLine body band line → IsSmallRow (entries_of (row_at body band line))

-- Edges

-- a slice, and one of its rows of each band, or none
pub record EdgeRows : Type 0 where
  pub slice : ℕ
  pub rows : List (List ℤ)

-- the row of a band, without numbers where there is none
abbrev pub edge_row : EdgeRows → ℕ → List ℤ
edge_row edge band = slice_index_or edge.rows band []

-- a band has a line in a slice
abbrev pub HasLines : Header → ℕ → ℕ → Type 0
HasLines h slice band = (band < bands_of h) × (first_line_of h slice band < end_line_of h slice band)

-- and it is high down
abbrev pub HasHighLines : Header → ℕ → ℕ → Type 0
HasHighLines h slice band = HasLines h slice band × ((band_type_of h band).high_down ≡ true)

-- of so many bands the edge of a slice has a row of each of which this holds, and of no other
pub record IsEdgeOf (slice bands : ℕ) (width : ℕ → ℕ) (has : ℕ → Type 0) (edge : EdgeRows) : Type 0 where
  pub slice_is : edge.slice ≡ slice
  pub count : length edge.rows ≡ bands
  pub there : (band : ℕ) → has band → IsBandRow (width band) (edge_row edge band)
  pub alone : (band : ℕ) → edge_row edge band ≢ [] → has band

-- the edge that a slice hands up has a row of each band that has a line there
abbrev pub IsUpEdge : Header → ℕ → EdgeRows → Type 0
IsUpEdge h slice = IsEdgeOf slice (bands_of h) (band_width_of h) (HasLines h slice)

-- the edge that it hands down has one of each of those that are high down
abbrev pub IsDownEdge : Header → ℕ → EdgeRows → Type 0
IsDownEdge h slice = IsEdgeOf slice (bands_of h) (band_width_of h) (HasHighLines h slice)

-- each row is that of the band's first line in the slice
abbrev pub ShowsUp : Header → ℕ → EdgeRows → Rows → Type 0
ShowsUp h slice edge rows = (band : ℕ) → Shows (edge_row edge band) (rows band (first_line_of h slice band))

-- each row is that of the band's last line in the slice
abbrev pub ShowsDown : Header → ℕ → EdgeRows → Rows → Type 0
ShowsDown h slice edge rows = (band : ℕ) → Shows (edge_row edge band) (rows band (end_line_of h slice band - 1))

-- the row of the first line that a slice has of a band, and that of the last, without numbers where there is none
abbrev pub first_row : List BandLines → ℕ → List ℤ
first_row body band = slice_index_or (lines_at body band).rows 0 []

abbrev pub last_row : List BandLines → ℕ → List ℤ
last_row body band = slice_index_or (lines_at body band).rows (length (lines_at body band).rows - 1) []

-- that of the last where the band is high down
abbrev pub last_high_row : Header → List BandLines → ℕ → List ℤ
last_high_row h body band = if (band_type_of h band).high_down then last_row body band else []
