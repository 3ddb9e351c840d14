use Rattle.std.proofs.Common.{◌≡◌, ◌+◌, ◌-◌, ◌*◌, ◌^◌, ◌≤◌, List, sum_by}
use Rattle.std.specs.List.{list_all, range_with_len}
use Rattle.xs_layout.specs.declared.Candidate.{Candidate}
use Rattle.xs_layout.specs.declared.Weight.{Weight}
use Rattle.xs_geometry.specs.SliceLines.{BandLines, rows_held}
use Rattle.xs_rate.specs.Choice.{precinct_fits_at, precinct_size_at}
use Rattle.xs_rate.specs.Chosen.{fields_fit_at, size_at}
use Rattle.xs_sizes.specs.Measured.{IsCodedAt, header_in}
use Rattle.xs_sizes.proofs.measure.slice_fits.Given as goal

abbrev pub invariant-precincts : goal.invariant-precincts
invariant-precincts l = record {
  from : l.first ≤ l.precinct;
  few : l.bytes ≤ 6 + 2 ^ 42 * (l.precinct - l.first);
  left : (bands : List BandLines) (weights : List Weight) (candidate : Candidate) → IsCodedAt l.slice bands weights candidate l.fn.coding l.fn.cuts
      → l.bytes + sum_by (precinct_size_at (header_in l.fn.coding weights) (rows_held bands) candidate) (range_with_len l.precinct (l.end - l.precinct)) ≡ size_at (header_in l.fn.coding weights) (rows_held bands) l.slice candidate;
  fits : (bands : List BandLines) (weights : List Weight) (candidate : Candidate) → IsCodedAt l.slice bands weights candidate l.fn.coding l.fn.cuts
      → list_all (precinct_fits_at (header_in l.fn.coding weights) (rows_held bands) candidate) (range_with_len l.precinct (l.end - l.precinct)) ≡ fields_fit_at (header_in l.fn.coding weights) (rows_held bands) l.slice candidate;
}
