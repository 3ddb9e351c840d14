use Rattle.std.proofs.Common.{◌≡◌, ℕ, ◌<◌, List, length, slice_index_or}
use Rattle.std.specs.List.{Contains}
use Rattle.xs_layout.specs.declared.Candidate.{Candidate}
use Rattle.xs_layout.specs.declared.Weight.{Weight}
use Rattle.xs_params.specs.Geometry.{precincts_of}
use Rattle.xs_geometry.specs.SliceLines.{BandLines, rows_held}
use Rattle.xs_rate.specs.Chosen.{content_at, mode_of}
use Rattle.xs_sizes.specs.Measured.{IsCodedAt, header_in}
use Rattle.xs_sizes.proofs.measure.precinct_modes.Given as goal

abbrev pub invariant-bands : goal.invariant-bands
invariant-bands l = record {
  size : length l.modes ≡ 30;
  done : (slice : ℕ) (bands : List BandLines) (weights : List Weight) (candidate : Candidate) → IsCodedAt slice bands weights candidate l.fn.coding l.fn.cuts → Contains (precincts_of l.fn.coding.geometry.now slice) l.fn.precinct
      → (band : ℕ) → band < l.band → slice_index_or l.modes band 0 ≡ mode_of (header_in l.fn.coding weights) (content_at (header_in l.fn.coding weights) (rows_held bands) candidate) l.fn.precinct band;
}
