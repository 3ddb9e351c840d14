use Rattle.std.proofs.Common.{◌<◌, ◌++◌, All, sym, subst}
use Rattle.std.proofs.lemmas.List.Elements.{All-nil}
use Rattle.xs_capture.specs.Offer.{Offer}
use Rattle.xs_board.specs.Passes.{unit_count}
use Rattle.xs_recv.specs.Filing.{AreForked}
use Rattle.xs_recv.proofs.activity.Team.add_workers.Goals as goal

pub add-requires-clause-units : goal.add-requires-clause-units
add-requires-clause-units c = subst (All (λ (p : Offer). p.unit < unit_count c.args.exchange.now.board)) (sym c.new.ensures.items) (All-nil (λ (p : Offer). p.unit < unit_count c.args.exchange.now.board))

pub working-preserved : goal.working-preserved
working-preserved c = record {
  pass = c.add.ensures.pass;
  hands = c.in_ok-add.ensures.hands;
  forked = λ offers f. subst (λ l. AreForked c.args.exchange.now.board (l ++ offers) c.add.new.self.pass c.add.new.self.others.items) c.new.ensures.items (c.in_ok-add.ensures.forked offers (c.working.invariant.forked offers f));
}
