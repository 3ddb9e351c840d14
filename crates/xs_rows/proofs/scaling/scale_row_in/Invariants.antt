use Rattle.std.proofs.Common.{◌≡◌, ℕ, ◌<◌}
use Rattle.std.specs.Prelude.{slice_index}
use Rattle.xs_signal.specs.Lines.{entries_of}
use Rattle.xs_signal.specs.Samples.{scale_in as scaled_in}
use Rattle.xs_rows.proofs.scaling.scale_row_in.Given as goal

abbrev pub invariant-loop-k : goal.invariant-loop-k
invariant-loop-k l = (j : ℕ) → j < l.k → entries_of l.row j ≡ scaled_in l.depth l.bw (slice_index l.samples j)
