use Rattle.std.proofs.Common.{[], get_or, sym, subst}
use Rattle.std.proofs.lemmas.Result.{err_from_is_err_and}
use Rattle.xs_stored.specs.Stored.{held_in}
use Rattle.xs_handover.specs.Passes.{actor}
use Rattle.xs_recv.specs.Reading.{IsStop}
use Rattle.xs_recv.proofs.Blocks.{filed_of, whole_stripe}
use Rattle.xs_recv.proofs.Finished.{kept_by}
use Rattle.xs_recv.proofs.Handed.{later_nothing}
use Rattle.xs_recv.proofs.Pictures.{handed_after, length_received}
use Rattle.xs_recv.proofs.answer.finish.Goals as goal

pub hand_all-requires-clause-started : goal.hand_all-requires-clause-started
hand_all-requires-clause-started c =
    c.in_ok-places.ensures.started (held_in c.args.board.now.actor.stored)
    (kept_by (held_in c.args.board.now.actor.stored) c.in_ok-header.header c.args.finishing.now c.args.left c.requires.receivable.bounded c.requires.kept c.in_ok-header.ensures.some c.in_ok-header.ensures.good c.in_ok-header.ensures.whole)

pub returns-in_err-length-clause-finished : goal.returns-in_err-length-clause-finished
returns-in_err-length-clause-finished c = let p = err_from_is_err_and c.from_residual-in_err-length.result c.from_residual-in_err-length.ensures.1 in rw (p.1, p.2) c.in_err-length.ensures.handed

pub returns-in_err-check_length-clause-finished : goal.returns-in_err-check_length-clause-finished
returns-in_err-check_length-clause-finished c =
    let p = err_from_is_err_and c.from_residual-in_err-check_length.result c.from_residual-in_err-check_length.ensures.1 in
    let e = c.in_err-check_length.ensures in
    rw (p.1, p.2) (λ choice. subst (IsStop (held_in c.args.board.now.actor.stored)) (sym e.2) (
      length_received (held_in c.args.board.now.actor.stored) c.in_ok-header.header c.in_ok-header.size (actor c.hand_all.new.self.stripes.hand) c.in_ok-length.length c.in_ok-header.ensures.found.spelled.4.accepted choice
          c.in_ok-length.ensures.stripes.blocks c.hand_all.ensures.pass.pass.decoded c.in_ok-length.ensures.handed c.in_ok-header.ensures.found e.0 e.1,
      tt,
    ))

pub make_all-requires-clause-whole : goal.make_all-requires-clause-whole
make_all-requires-clause-whole c slice there =
    let v = actor c.hand_all.new.self.stripes.hand in
    let so = c.in_ok-length.ensures.handed in
    whole_stripe (held_in c.args.board.now.actor.stored) c.in_ok-header.header v slice there c.in_ok-length.ensures.stripes.blocks
    (filed_of c.in_ok-header.header v slice (λ k below. (get_or so.units k [], so.handed k below)) there)

pub returns-clause-finished : goal.returns-clause-finished
returns-clause-finished c =
    let held = held_in c.args.board.now.actor.stored in
    let h = c.in_ok-header.header in
    let v = actor c.hand_all.new.self.stripes.hand in
    let w = actor c.make_all.new.self.stripes.hand in
    let made = c.in_ok-make_all.ensures.made (held_in c.args.board.now.actor.stored) c.in_ok-length.ensures.stripes in
    record {
      size = c.in_ok-header.size;
      headed = c.in_ok-header.ensures.found;
      total = c.in_ok-length.length;
      handed = handed_after (held_in c.args.board.now.actor.stored) c.in_ok-header.header c.in_ok-header.size _ (actor c.hand_all.new.self.stripes.hand) (actor c.make_all.new.self.stripes.hand) c.in_ok-length.length
          (later_nothing (actor c.hand_all.new.self.stripes.hand) (actor c.make_all.new.self.stripes.hand) c.make_all.ensures.hands) c.in_ok-length.ensures.handed;
      stated = c.in_ok-check_length.ensures;
      stripes = made.0;
      all = made.1;
    }
