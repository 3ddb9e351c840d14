use Rattle.std.proofs.Common.{◌+◌, sym, subst, ◌∙◌}
use Rattle.xs_capture.specs.Selection.{AreMissing}
use Rattle.xs_stored.specs.Stored.{held_in}
use Rattle.xs_stored.proofs.Missing.{missing_more, missing_same}
use Rattle.xs_board.proofs.Told.{IsTold}
use Rattle.xs_board.proofs.closed.ClosedBoard.missing.Goals.{then-not-is_whole+in_ok-extend, else-not-is_whole}
use Rattle.xs_board.proofs.closed.ClosedBoard.missing.Goals as goal

pub looking-preserved : goal.looking-preserved
looking-preserved c =
    let v = c.args.self.now.actor in
    let slice = c.looking.slice in
    elim c.if-not-is_whole.branch [
      | then-not-is_whole+in_ok-extend w ↦
          subst (AreMissing (held_in v.stored) (slice + 1)) (sym (w.missing-is ∙ w.in_ok-extend.ensures.appended))
          (missing_more (held_in v.stored) slice c.looking.missing c.looking.invariant (subst (IsTold v (slice + 1)) w.if-not-is_whole.true c.is_whole.ensures))
      | else-not-is_whole w ↦
          subst (AreMissing (held_in v.stored) (slice + 1)) (sym w.missing-is)
          (missing_same (held_in v.stored) slice c.looking.missing c.looking.invariant (subst (IsTold v (slice + 1)) w.if-not-is_whole.false c.is_whole.ensures))
    ]
