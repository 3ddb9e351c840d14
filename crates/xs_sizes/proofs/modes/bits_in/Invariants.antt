use Rattle.std.proofs.Common.{◌≡◌, ℕ, ◌+◌, ◌-◌, ◌*◌, ◌^◌, ◌≤◌, slice_index_or}
use Rattle.std.specs.Prelude.{Bool, List}
use Rattle.std.specs.List.{range_with_len}
use Rattle.xs_params.specs.declared.header.Header.{Header}
use Rattle.xs_geometry.specs.SliceLines.{BandLines, rows_held}
use Rattle.xs_sizes.specs.Counted.{IsBandCounted}
use Rattle.xs_sizes.specs.Precincts.{lines_bits}
use Rattle.xs_sizes.proofs.modes.bits_in.Given as goal

abbrev pub invariant-lines : goal.invariant-lines
invariant-lines l = record {
  from : l.fn.lines.0 ≤ l.line;
  few : (t : ℕ) → t ≤ 15 → slice_index_or l.bits t 0 ≤ 2 ^ 17 * (l.line - l.fn.lines.0);
  left : (h : Header) (bands : List BandLines) (with_signs : Bool) (band t : ℕ) → IsBandCounted h bands with_signs band l.fn.counts → t ≤ 15
      → slice_index_or l.bits t 0 + lines_bits h (rows_held bands) band t l.fn.mode (range_with_len l.line (l.fn.lines.1 - l.line)) ≡ lines_bits h (rows_held bands) band t l.fn.mode (range_with_len l.fn.lines.0 (l.fn.lines.1 - l.fn.lines.0));
}
