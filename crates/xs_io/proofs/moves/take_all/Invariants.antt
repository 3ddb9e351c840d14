use Rattle.std.proofs.Common.{◌+◌, ◌≡◌, ◌≤◌, length}
use Rattle.std.specs.Io.KnownBytes.{Consumes}
use Rattle.xs_io.proofs.moves.take_all.Given as goal

abbrev pub invariant-taking : goal.invariant-taking
invariant-taking g l = record {
  spare : length l.list + l.spare ≡ l.limit;
  taken : Consumes (g.S.Source.left l.initial.source) (g.S.Source.left l.source) l.list;
  later : g.S.Source.faults l.initial.source ≤ g.S.Source.faults l.source;
}

abbrev pub decreases-taking : goal.decreases-taking
decreases-taking g l = l.spare
