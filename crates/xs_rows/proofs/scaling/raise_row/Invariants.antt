use Rattle.std.proofs.Common.{◌≡◌, ℕ, ◌<◌, ◌^◌, pos, ◌*ℤ◌}
use Rattle.xs_signal.specs.Lines.{entries_of}
use Rattle.xs_rows.proofs.scaling.raise_row.Given as goal

abbrev pub invariant-loop-k : goal.invariant-loop-k
invariant-loop-k l = (j : ℕ) → j < l.k → entries_of l.raised j ≡ (entries_of l.row j *ℤ pos (2 ^ l.fraction))
