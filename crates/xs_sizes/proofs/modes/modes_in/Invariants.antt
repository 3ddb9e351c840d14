use Rattle.std.proofs.Common.{◌≡◌, ℕ, ◌-◌, ◌<◌, Bool, List, length, slice_index_or}
use Rattle.std.specs.List.{range_with_len}
use Rattle.xs_geometry.specs.SliceLines.{BandLines, rows_held}
use Rattle.xs_params.specs.declared.header.Header.{Header}
use Rattle.xs_rate.specs.Modes.{fewest}
use Rattle.xs_sizes.specs.Counted.{IsBandCounted}
use Rattle.xs_sizes.specs.Precincts.{lines_bits}
use Rattle.xs_sizes.proofs.modes.modes_in.Given as goal

abbrev pub invariant-cuts : goal.invariant-cuts
invariant-cuts l = record {
  size : length l.modes ≡ 16;
  done : (h : Header) (bands : List BandLines) (with_signs : Bool) (band : ℕ) → IsBandCounted h bands with_signs band l.fn.counts
      → (j : ℕ) → j < l.t → slice_index_or l.modes j 0 ≡ fewest (λ mode. lines_bits h (rows_held bands) band j mode (range_with_len l.fn.lines.0 (l.fn.lines.1 - l.fn.lines.0)));
}
