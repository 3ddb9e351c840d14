use Rattle.std.proofs.Common.{◌≡◌, ◌*◌, take, map}
use Rattle.xs_lists.specs.Spelling.{upto}
use Rattle.xs_signal.specs.Lines.{entries_of}
use Rattle.xs_rate.specs.Content.{planes_of}
use Rattle.xs_groups.proofs.count_eights.Given as goal

abbrev pub invariant-eights : goal.invariant-eights
invariant-eights l = record {
  done : take (8 * l.eight) l.planes ≡ map (planes_of (entries_of l.row)) (upto (8 * l.eight));
}
