use Rattle.std.proofs.Common.{ℕ, ◌<◌, ◌≤◌, [], length, get_or}
use Rattle.xs_network_tests.proofs.packets.is_packable.Given as goal

abbrev pub invariant-asking : goal.invariant-asking
invariant-asking l = (k : ℕ) → k < l.slice → length (get_or l.stream.slices k []) ≤ l.most
