use Rattle.std.proofs.Common.{◌≡◌, ℕ, ◌<◌, ◌≤◌, length, slice_index_or}
use Rattle.std.specs.Prelude.{All}
use Rattle.xs_layout.specs.Weighting.{truncation_of}
use Rattle.xs_sizes.proofs.cuts.cuts_of.Given as goal

abbrev pub invariant-bands : goal.invariant-bands
invariant-bands l = record {
  size : length l.cuts ≡ 30;
  done : (band : ℕ) → band < l.band → slice_index_or l.cuts band 0 ≡ truncation_of l.candidate.q l.candidate.r (slice_index_or l.weights band (record { gain = 0; priority = 0 }));
  few : All (λ t. t ≤ 15) l.cuts;
}
