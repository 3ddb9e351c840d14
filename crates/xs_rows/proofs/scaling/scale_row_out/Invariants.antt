use Rattle.std.proofs.Common.{◌≡◌, ℕ, ◌<◌}
use Rattle.std.specs.Prelude.{slice_index}
use Rattle.xs_signal.specs.Lines.{entries_of}
use Rattle.xs_signal.specs.Samples.{scale_out as scaled_out}
use Rattle.xs_rows.proofs.scaling.scale_row_out.Given as goal

abbrev pub invariant-loop-k : goal.invariant-loop-k
invariant-loop-k l = (j : ℕ) → j < l.k → slice_index l.samples j ≡ scaled_out l.depth l.bw (entries_of l.row j)
