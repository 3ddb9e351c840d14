use Rattle.std.proofs.Common.{◌≡◌, ◌-◌, ◌≤◌, length, drop}
use Rattle.xs_params.specs.Check.{are_boxes}
use Rattle.xs_params.proofs.check.are_boxes.Given as goal

abbrev pub invariant-boxes : goal.invariant-boxes
invariant-boxes l = record {
  within : l.place ≤ length l.bytes;
  rest : are_boxes 0 (drop l.place l.bytes) ≡ are_boxes 0 l.bytes;
}

abbrev pub decreases-boxes : goal.decreases-boxes
decreases-boxes l = length l.bytes - l.place
