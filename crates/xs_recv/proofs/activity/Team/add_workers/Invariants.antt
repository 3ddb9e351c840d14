use Rattle.std.proofs.Common.{List}
use Rattle.xs_capture.specs.Offer.{Offer}
use Rattle.xs_board.specs.Passes.{IsBoardPass}
use Rattle.xs_recv.specs.Filing.{AreForked, HandsForked}
use Rattle.xs_recv.proofs.activity.Team.add_workers.Given as goal

abbrev pub invariant-working : goal.invariant-working
invariant-working l = record {
  pass : IsBoardPass l.exchange.board l.self.pass;
  hands : HandsForked l.exchange.handover l.self.hand l.self.others.items;
  forked : (offers : List Offer) → AreForked l.exchange.board offers l.initial.self.pass l.initial.self.others.items → AreForked l.exchange.board offers l.self.pass l.self.others.items;
}
