use Rattle.std.proofs.Common.{◌≡◌, ℕ, ◌<◌, length, slice_index_or}
use Rattle.xs_sizes.specs.Counted.{IsBandCounted}
use Rattle.xs_sizes.specs.declared.bands.BandCounts.{BandCounts}
use Rattle.xs_sizes.proofs.counts.count_bands.Given as goal

abbrev pub invariant-bands : goal.invariant-bands
invariant-bands l = record {
  count : length l.bands.items ≡ l.band;
  each : (band : ℕ) (none : BandCounts) → band < l.band → IsBandCounted l.counting.geometry.now l.counting.rows.now l.counting.signs band (slice_index_or l.bands.items band none);
}
