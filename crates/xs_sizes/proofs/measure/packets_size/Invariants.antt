use Rattle.std.proofs.Common.{◌≡◌, ℕ, ◌+◌, ◌*◌, ◌^◌, ◌≤◌, List, drop, sum_by}
use Rattle.std.specs.Prelude.{◌&&◌}
use Rattle.std.specs.List.{list_all, Contains}
use Rattle.xs_layout.specs.declared.Candidate.{Candidate}
use Rattle.xs_layout.specs.declared.Weight.{Weight}
use Rattle.xs_params.specs.Geometry.{packets_of, precincts_of}
use Rattle.xs_geometry.specs.SliceLines.{BandLines, rows_held}
use Rattle.xs_sizes.specs.Measured.{IsCodedAt, header_in, packet_fits_at, packet_size_at}
use Rattle.xs_sizes.specs.Packed.{packets_fit_at, packets_size_at}
use Rattle.xs_sizes.proofs.measure.packets_size.Given as goal

abbrev pub invariant-packets : goal.invariant-packets
invariant-packets l = record {
  few : l.bytes ≤ 2 ^ 37 * l.number;
  sizes : (slice : ℕ) (bands : List BandLines) (weights : List Weight) (candidate : Candidate) → IsCodedAt slice bands weights candidate l.fn.coding l.fn.cuts → Contains (precincts_of l.fn.coding.geometry.now slice) l.fn.precinct
      → l.bytes + sum_by (packet_size_at (header_in l.fn.coding weights) (rows_held bands) candidate l.fn.precinct) (drop l.number (packets_of l.fn.coding.geometry.now l.fn.precinct)) ≡ packets_size_at (header_in l.fn.coding weights) (rows_held bands) candidate l.fn.precinct;
  fits : (slice : ℕ) (bands : List BandLines) (weights : List Weight) (candidate : Candidate) → IsCodedAt slice bands weights candidate l.fn.coding l.fn.cuts → Contains (precincts_of l.fn.coding.geometry.now slice) l.fn.precinct
      → (l.fits_fields && list_all (packet_fits_at (header_in l.fn.coding weights) (rows_held bands) candidate l.fn.precinct) (drop l.number (packets_of l.fn.coding.geometry.now l.fn.precinct))) ≡ packets_fit_at (header_in l.fn.coding weights) (rows_held bands) candidate l.fn.precinct;
}
