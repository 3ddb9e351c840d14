use Rattle.std.proofs.Common.{◌≡◌, ℕ, suc, ◌+◌, ◌-◌, ◌<◌, ◌≤◌, length}
use Rattle.xs_markers.specs.Units.{boxes_from}
use Rattle.xs_markers.proofs.boxes.skip_boxes.Given as goal

abbrev pub invariant-boxes : goal.invariant-boxes
invariant-boxes l = record {
  within : l.place ≤ length l.bytes;
  rest : (steps : ℕ) × (length l.bytes < steps + l.place) × (boxes_from steps l.bytes l.place ≡ boxes_from (suc (length l.bytes)) l.bytes 0);
}

abbrev pub decreases-boxes : goal.decreases-boxes
decreases-boxes l = length l.bytes - l.place
