use Rattle.std.proofs.Common.{◌≡◌, ◌+◌, ◌<◌, ◌≤◌, [], ◌∷◌, ◌++◌, replicate}
use Rattle.xs_bits.proofs.writer.BitWriter.put_unary.Given as goal

abbrev pub invariant-filling : goal.invariant-filling
invariant-filling l = record {
  room : l.left < l.self.spare;
  spare : l.initial.self.spare + l.left ≤ l.self.spare + l.ones;
  bits : l.self.bits ++ (replicate l.left 1 ++ 0 ∷ []) ≡ l.initial.self.bits ++ (replicate l.ones 1 ++ 0 ∷ []);
}

abbrev pub decreases-filling : goal.decreases-filling
decreases-filling l = l.left
