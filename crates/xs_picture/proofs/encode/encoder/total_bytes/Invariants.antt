use Rattle.std.proofs.Common.{◌≡◌, length, take, sum_by}
use Rattle.xs_picture.proofs.encode.encoder.total_bytes.Given as goal

abbrev pub invariant-loop-slice : goal.invariant-loop-slice
invariant-loop-slice l = l.total ≡ sum_by length (take l.slice-index l.slices)
