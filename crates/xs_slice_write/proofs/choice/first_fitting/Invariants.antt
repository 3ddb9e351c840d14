use Rattle.std.proofs.Common.{◌≡◌, ◌+◌, ◌*◌, ◌^◌, ◌≤◌, length, drop, List}
use Rattle.std.specs.Prelude.{find, All}
use Rattle.xs_layout.specs.Candidates.{candidates_of}
use Rattle.xs_layout.specs.declared.Candidate.{Candidate}
use Rattle.xs_geometry.specs.SliceLines.{BandLines, rows_held}
use Rattle.xs_rate.specs.Chosen.{candidates, fits_at, size_at}
use Rattle.xs_sizes.specs.Measured.{IsCodedAt, IsCoding, header_in}
use Rattle.xs_slice_write.proofs.choice.first_fitting.Given as goal

abbrev pub invariant-list : goal.invariant-list
invariant-list l = record {
  few : l.size ≤ 2 ^ 56 + 2 ^ 53 * l.number;
  cuts : All (λ t. t ≤ 15) l.seen;
  seen : (bands : List BandLines) → IsCoding l.slice bands l.fn.coding
      → (candidate : Candidate) × IsCodedAt l.slice bands l.fn.weights candidate l.fn.coding l.seen × (l.size ≡ size_at (header_in l.fn.coding l.fn.weights) (rows_held bands) l.slice candidate);
  left : (bands : List BandLines) → IsCoding l.slice bands l.fn.coding
      → find (fits_at (header_in l.fn.coding l.fn.weights) (rows_held bands) l.share l.slice) (drop l.number (candidates_of (length l.fn.weights) l.fn.weights))
      ≡ find (fits_at (header_in l.fn.coding l.fn.weights) (rows_held bands) l.share l.slice) (candidates (header_in l.fn.coding l.fn.weights));
}
