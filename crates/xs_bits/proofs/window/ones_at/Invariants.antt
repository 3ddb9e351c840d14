use Rattle.std.proofs.Common.{◌≡◌, ℕ, ◌+◌, ◌-◌, ◌*◌, ◌<◌, ◌≤◌, length, get_or}
use Rattle.xs_lists.specs.Bits.{bits_of_bytes}
use Rattle.xs_bits.proofs.window.ones_at.Given as goal

abbrev pub invariant-counting : goal.invariant-counting
invariant-counting l = record {
  within : l.place + l.count ≤ 8 * length l.bytes;
  ones : (k : ℕ) → k < l.count → get_or (bits_of_bytes l.bytes) (l.place + k) 0 ≡ 1;
}

abbrev pub decreases-counting : goal.decreases-counting
decreases-counting l = 8 * length l.bytes - (l.place + l.count)
