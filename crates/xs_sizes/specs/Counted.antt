-- What is kept of a slice to count its sizes.
use Rattle.std.specs.Prelude.{◌≡◌, ℕ, ◌+◌, ◌-◌, ◌<◌, ◌≤◌, Bool, List, length, slice_index_or, replicate}
use Rattle.xs_layout.specs.Geometry.{groups_of, significance_groups_of}
use Rattle.xs_params.specs.declared.header.Header.{Header}
use Rattle.xs_params.specs.Rows.{Rows}
use Rattle.xs_params.specs.Geometry.{band_width_of}
use Rattle.xs_geometry.specs.SliceLines.{BandLines, AreLinesOf, lines_at, rows_held}
use Rattle.xs_sizes.specs.Cut.{AreCutSizes, CutSizes}
use Rattle.xs_sizes.specs.LineSizes.{AreRegular, cut_sizes_at}
use Rattle.xs_sizes.specs.declared.lengths.CountSizes.{CountSizes}
use Rattle.xs_sizes.specs.declared.line.LineSizes.{LineSizes}
use Rattle.xs_sizes.specs.Precincts.{ArePrecinctsKept}
use Rattle.xs_sizes.specs.declared.bands.BandCounts.{BandCounts}
use Rattle.xs_sizes.specs.declared.counts.SliceCounts.{SliceCounts}

abbrev no_counts : CountSizes
no_counts = record { all = replicate 16 0; kept = replicate 16 0 }

abbrev pub no_line : LineSizes
no_line = record { groups = 0; plain = no_counts; predicted = no_counts; dead_zone = replicate 16 0; uniform = replicate 16 0 }

-- a line among those of a band whose lines begin at this one, and its sizes at a truncation
abbrev pub line_in : List LineSizes → ℕ → ℕ → LineSizes
line_in lines first line = slice_index_or lines (line - first) no_line

abbrev pub cut_at : List LineSizes → ℕ → ℕ → ℕ → CutSizes
cut_at lines first line t = cut_sizes_at (line_in lines first line) t

-- the sizes of some lines of a band from the first on, each at every truncation
pub record AreBandSizes (h : Header) (rows : Rows) (with_signs : Bool) (band first end : ℕ) (lines : List LineSizes) : Type 0 where
  pub count : length lines ≡ end - first
  pub regular : (line : ℕ) → first ≤ line → line < end → AreRegular (line_in lines first line)
  pub sizes : (line t : ℕ) → first ≤ line → line < end → t ≤ 15 → AreCutSizes h rows with_signs t band line (cut_at lines first line t)

-- those of all lines of a band in the slice
pub record IsBandCounted (h : Header) (bands : List BandLines) (with_signs : Bool) (band : ℕ) (counts : BandCounts) : Type 0 where
  pub first : counts.first ≡ (lines_at bands band).first
  pub flags : counts.flags ≡ significance_groups_of (groups_of (band_width_of h band))
  pub lines : AreBandSizes h (rows_held bands) with_signs band (lines_at bands band).first ((lines_at bands band).first + length (lines_at bands band).rows) counts.lines.items

-- those of all bands
pub record AreBandsCounted (h : Header) (bands : List BandLines) (with_signs : Bool) (counts : List BandCounts) : Type 0 where
  pub count : length counts ≡ length bands
  pub each : (band : ℕ) (none : BandCounts) → band < length counts → IsBandCounted h bands with_signs band (slice_index_or counts band none)

-- the precincts of the slice, each of which has one line of the first band
pub record AreCountsOf (h : Header) (bands : List BandLines) (counts : SliceCounts) : Type 0 where
  pub sizes : AreBandsCounted h bands counts.signs counts.bands.items
  pub first : counts.first ≡ (lines_at bands 0).first
  pub precincts : ArePrecinctsKept h (rows_held bands) (lines_at bands 0).first ((lines_at bands 0).first + length (lines_at bands 0).rows) counts.precincts.items

-- the sizes stand for the rows of a slice
pub record CountsSlice (h : Header) (slice : ℕ) (bands : List BandLines) (counts : SliceCounts) : Type 0 where
  pub lines : AreLinesOf h slice bands
  pub counted : AreCountsOf h bands counts
