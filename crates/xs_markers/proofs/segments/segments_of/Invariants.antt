use Rattle.std.proofs.Common.{◌≡◌, ℕ, ◌+◌, ◌-◌, ◌<◌, ◌≤◌, length}
use Rattle.xs_markers.specs.Reading.{segments_from, segments_of}
use Rattle.xs_markers.specs.Seen.{IsLimitedSeen}
use Rattle.xs_markers.proofs.segments.segments_of.Given as goal

abbrev pub invariant-segments : goal.invariant-segments
invariant-segments l = record {
  within : l.place ≤ length l.bytes;
  limited : IsLimitedSeen l.seen;
  rest : (steps : ℕ) × (length l.bytes < steps + l.place) × (segments_from steps l.bytes l.place l.seen ≡ segments_of l.bytes);
}

abbrev pub decreases-segments : goal.decreases-segments
decreases-segments l = length l.bytes - l.place
