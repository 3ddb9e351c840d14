use Rattle.std.proofs.Common.{length, ap, subst, ◌∙◌, arith}
use Rattle.xs_params.specs.Geometry.{slice_count}
use Rattle.xs_capture.specs.Selection.{AreMissing}
use Rattle.xs_stored.specs.Stored.{held_in}
use Rattle.xs_recv.proofs.answer.check_slices.Goals as goal

pub returns : goal.returns
returns c = (
  (
    c.args.header.now,
    c.args.size,
    c.requires.headed,
    subst (λ n. AreMissing (held_in c.args.board.now.actor.stored) n c.in_ok-missing.missing) (c.slices.ensures.count ∙ ap slice_count c.of.ensures) c.in_ok-missing.ensures.missing,
    λ none. absurd (omega (arith, ap length none, c.len.ensures.count, c.if-len-eq0.false)),
  ),
  tt,
)
