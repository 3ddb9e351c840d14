-- The rows of the bands of a picture, and those that are folded from them: '5/3 wavelet' and the fold of 'Rate choice'.
use Rattle.std.specs.Prelude.{◌≡◌, ◌≢◌, ◌↔◌, ℕ, ◌-◌, ◌<◌, ◌^◌, ℤ, List, [], length, map, slice_index_or, if◌then◌else◌}
use Rattle.xs_lists.specs.Spelling.{upto}
use Rattle.xs_layout.specs.Geometry.{BandType, components_of}
use Rattle.xs_params.specs.declared.header.Header.{Header}
use Rattle.xs_params.specs.Geometry.{band_component, band_type_of, component_width}
use Rattle.xs_params.specs.Picture.{Picture, sample_at}
use Rattle.xs_params.specs.Rows.{Rows}
use Rattle.xs_signal.specs.Colour.{rct}
use Rattle.xs_signal.specs.Fold.{fold}
use Rattle.xs_signal.specs.Lines.{AllBelow, Shows, entries_of}
use Rattle.xs_signal.specs.Picture.{analysed, coloured, one_of, scaled}
use Rattle.xs_signal.specs.Wavelet.{band_plane}
use Rattle.xs_signal.specs.Samples.{scale_in}
use Rattle.xs_rate.specs.Coefficients.{signal_of}
use Rattle.xs_geometry.specs.SliceLines.{BandLines, AreLinesOf, HasLine, row_at}
use Rattle.xs_geometry.specs.declared.kinds.BandKind.{BandKind}
use Rattle.xs_geometry.specs.Sides.{type_of}
use Rattle.xs_splitter.specs.Chain.{split_of, IsChain, HasAll, HoldsPlane, HoldBands}
use Rattle.xs_splitter.specs.Shown.{hl_rows, lh_rows, hh_rows}
use Rattle.xs_splitter.specs.declared.level.Level.{Level}
use Rattle.xs_splitter.specs.declared.splitter.Splitter.{Splitter}
use Rattle.xs_wave.specs.Within.{SameWithin}
use Rattle.xs_wave.specs.Planes.{plane_of, HasSize}
use Rattle.xs_wave.specs.Bands.{band_count, columns_in, rows_in, type_at}
use Rattle.xs_stripe.specs.Joined.{component_split}

-- Components

-- luma, the first or the second difference of three samples
abbrev pub rct_entry : ℕ → ℕ → ℕ → ℕ → ℕ → ℕ → ℤ
rct_entry depth bw component red green blue = one_of (rct (scale_in depth bw red) (scale_in depth bw green) (scale_in depth bw blue)) component

-- the numbers of a component that are split into bands: scaled samples, or luma and differences of them
abbrev pub numbers_of : Header → Picture → ℕ → ℕ → ℕ → ℤ
numbers_of h picture = if h.colour then coloured (scaled (signal_of h) (sample_at picture)) else scaled (signal_of h) (sample_at picture)

-- a row has the numbers of a component's line
pub record IsLine (h : Header) (picture : Picture) (component line : ℕ) (row : List ℤ) : Type 0 where
  pub width : length row ≡ component_width h component
  pub shown : Shows row (numbers_of h picture component line)
  pub small : AllBelow (2 ^ 20) (entries_of row)

-- the rows of each band of a component, by the band's type
abbrev pub RowsByType : Type 0
RowsByType = BandType → List (List ℤ)

-- as many as the band of each type has
abbrev pub AreComponentRows : Header → ℕ → RowsByType → Type 0
AreComponentRows h component rows =
    let s = component_split h component in
    (number : ℕ) → number < band_count s → HasSize (columns_in s (type_at s number)) (rows_in s (type_at s number)) (rows (type_at s number))

-- and they hold the bands of a component of a picture
pub record AreComponentBandsOf (h : Header) (picture : Picture) (component : ℕ) (rows : RowsByType) : Type 0 where
  pub are : AreComponentRows h component rows
  pub shown : let s = component_split h component in (number : ℕ) → number < band_count s
      → SameWithin (columns_in s (type_at s number)) (rows_in s (type_at s number)) (plane_of (rows (type_at s number))) (band_plane (analysed (signal_of h) (sample_at picture) component) (type_at s number))

-- the rows of one of the three bands of a level
abbrev pub rows_of_level : (Level → List (List ℤ)) → Splitter → ℕ → List (List ℤ)
rows_of_level rows c level = slice_index_or (map rows c.levels.items) level []

-- the rows of a splitter's bands
abbrev pub rows_by_type : Splitter → RowsByType
rows_by_type c type =
    if type.high_down then (if type.high_across then rows_of_level hh_rows c (type.down - 1) else rows_of_level lh_rows c (type.down - 1))
    else (if type.high_across then rows_of_level hl_rows c (type.across - 1) else c.low.items)

-- the rows of a component by its splitter, of which there may be none
abbrev pub rows_of_component : List Splitter → ℕ → RowsByType
rows_of_component bands component = slice_index_or (map rows_by_type bands) component (λ _. [])

-- those of each component
pub record ArePictureRows (h : Header) (bands : List Splitter) : Type 0 where
  pub count : length bands ≡ components_of h.shape.format
  pub each : (component : ℕ) → component < components_of h.shape.format → AreComponentRows h component (rows_of_component bands component)

pub record AreBandsOf (h : Header) (picture : Picture) (bands : List Splitter) : Type 0 where
  pub count : length bands ≡ components_of h.shape.format
  pub each : (component : ℕ) → component < components_of h.shape.format → AreComponentBandsOf h picture component (rows_of_component bands component)

-- Splitters

-- a splitter was given so many rows of a component, and keeps those beside the lowest band's rows from one on
pub record IsGiven (h : Header) (picture : Picture) (component from line : ℕ) (c : Splitter) : Type 0 where
  pub chain : IsChain 0 c.taken c
  pub taken : c.taken ≡ line
  pub split : split_of c ≡ component_split h component
  pub holds : HoldsPlane 0 from (numbers_of h picture component) c

-- and after the last row
pub record IsSplitUp (h : Header) (picture : Picture) (component from : ℕ) (c : Splitter) : Type 0 where
  pub all : HasAll c
  pub split : split_of c ≡ component_split h component
  pub holds : HoldBands (split_of c) from (numbers_of h picture component) c.levels.items c.low.items

-- Rows

-- the rows of the bands of a kind
abbrev pub rows_of_kind : List Splitter → BandKind → List (List ℤ)
rows_of_kind bands kind = rows_of_component bands kind.component (type_of kind)

-- the rows of a band
abbrev pub plane_of_band : Header → List Splitter → ℕ → List (List ℤ)
plane_of_band h bands band = rows_of_component bands (band_component h band) (band_type_of h band)

-- the coefficients that the rows stand for, with bits rounded away
abbrev pub folded_rows : Header → List Splitter → Rows
folded_rows h bands band line column = fold h.fq (plane_of (plane_of_band h bands band) line column)

-- a row with bits rounded away
abbrev pub folded_row : ℕ → List ℤ → List ℤ
folded_row fraction numbers = map (λ column. fold fraction (entries_of numbers column)) (upto (length numbers))

-- the rows of a band are folded from its plane, and all others are as before
pub record IsBandFolded (fraction : ℕ) (plane : List (List ℤ)) (band : ℕ) (old new : List BandLines) : Type 0 where
  pub lines : (h : Header) (slice : ℕ) → AreLinesOf h slice old → AreLinesOf h slice new
  pub same : (other line : ℕ) → HasLine new other line ↔ HasLine old other line
  pub folded : (line : ℕ) → HasLine old band line → row_at new band line ≡ folded_row fraction (slice_index_or plane line [])
  pub others : (other line : ℕ) → other ≢ band → HasLine old other line → row_at new other line ≡ row_at old other line
