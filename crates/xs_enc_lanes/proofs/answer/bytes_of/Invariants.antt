use Rattle.std.proofs.Common.{◌≡◌, ℕ, ◌≤◌, None, length, get_or}
use Rattle.xs_enc_lanes.proofs.Slices.{WritesTo}
use Rattle.xs_enc_lanes.proofs.answer.bytes_of.Given as goal

abbrev pub invariant-slices : goal.invariant-slices
invariant-slices l = record {
  count : length l.places.items ≡ length l.fn.places.items;
  left : (k : ℕ) → l.slice ≤ k → get_or l.places.items k None ≡ get_or l.fn.places.items k None;
  written : WritesTo l.fn.places.items l.slice l.slices.items;
}
