-- What is written of a slice hangs on the rows of its lines alone.
use Rattle.std.specs.Prelude.{◌≡◌, ℕ, ◌/◌, ◌<◌, Bool}
use Rattle.xs_layout.specs.declared.Candidate.{Candidate}
use Rattle.xs_params.specs.declared.header.Header.{Header}
use Rattle.xs_params.specs.Accepted.{IsGeometry}
use Rattle.xs_params.specs.Geometry.{bands_of, band_height_of, slice_count}
use Rattle.xs_grammar.specs.Precinct.{precinct_of}
use Rattle.xs_rate.specs.Coefficients.{Rows}
use Rattle.xs_rate.specs.Choice.{choice_of, filled_slice_at}

-- the rows are the same in the lines of a slice
abbrev pub SameInSlice : Header → ℕ → Rows → Rows → Type 0
SameInSlice h slice rows other = (band line : ℕ) → band < bands_of h → line < band_height_of h band → precinct_of h band line / h.hsl ≡ slice → rows band line ≡ other band line

-- so the candidate of the slice is the same, and its bytes
pub record IsWrittenAlike (h : Header) (slice : ℕ) (rows other : Rows) : Type 0 where
  pub choice : (share : ℕ) → choice_of h rows share slice ≡ choice_of h other share slice
  pub bytes : (share : ℕ) (fill : Bool) (candidate : Candidate) → filled_slice_at h rows share fill slice candidate ≡ filled_slice_at h other share fill slice candidate

abbrev pub SliceOfLines : Type 0
SliceOfLines = (h : Header) (slice : ℕ) (rows other : Rows) → IsGeometry h → slice < slice_count h → SameInSlice h slice rows other → IsWrittenAlike h slice rows other
