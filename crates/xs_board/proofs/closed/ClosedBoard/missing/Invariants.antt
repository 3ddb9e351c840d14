use Rattle.xs_capture.specs.Selection.{AreMissing}
use Rattle.xs_stored.specs.Stored.{held_in}
use Rattle.xs_board.proofs.closed.ClosedBoard.missing.Given as goal

abbrev pub invariant-looking : goal.invariant-looking
invariant-looking l = AreMissing (held_in l.self.actor.stored) l.slice l.missing
