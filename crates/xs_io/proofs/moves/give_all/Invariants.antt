use Rattle.std.proofs.Common.{◌-◌, ◌≡◌, ◌≤◌, length, take}
use Rattle.std.specs.Io.KnownBytes.{Appends}
use Rattle.xs_io.proofs.moves.give_all.Given as goal

abbrev pub invariant-giving : goal.invariant-giving
invariant-giving g l = record {
  within : l.given ≤ length l.piece;
  held : Appends (g.K.Sink.held l.initial.sink) (g.K.Sink.held l.sink) (take l.given l.piece);
  untouched : l.given ≡ 0 → l.sink ≡ l.initial.sink;
  later : g.K.Sink.faults l.initial.sink ≤ g.K.Sink.faults l.sink;
}

abbrev pub decreases-giving : goal.decreases-giving
decreases-giving g l = length l.piece - l.given
