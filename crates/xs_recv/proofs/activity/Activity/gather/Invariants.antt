use Rattle.std.proofs.Common.{length, List}
use Rattle.xs_capture.specs.Offer.{Offer}
use Rattle.xs_board.specs.Passes.{actor}
use Rattle.xs_recv.specs.Filing.{AreFiledBy, MayJoin, MayJoinHands}
use Rattle.xs_recv.proofs.activity.Activity.gather.Given as goal

abbrev pub invariant-gathering : goal.invariant-gathering
invariant-gathering l = record {
  join : MayJoin l.exchange.board (length l.fn.others.items) l.self.pass l.others.items;
  hands : MayJoinHands l.exchange.handover (length l.fn.others.items) l.self.hand l.others.items;
  filed : (offers : List Offer) → AreFiledBy offers (actor l.initial.self.pass) l.initial.others.items → AreFiledBy offers (actor l.self.pass) l.others.items;
}

abbrev pub decreases-gathering : goal.decreases-gathering
decreases-gathering l = length l.others.items
