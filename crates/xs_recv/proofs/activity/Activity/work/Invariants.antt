use Rattle.xs_lanes.specs.Knowing.{SameShare}
use Rattle.xs_board.specs.Passes.{IsBoardPass, actor}
use Rattle.xs_recv.specs.Activities.{HasHand}
use Rattle.xs_board.specs.Answers.{FilesNothing}
use Rattle.xs_recv.proofs.activity.Activity.work.Given as goal

abbrev pub invariant-working : goal.invariant-working
invariant-working g l = record {
  pass : IsBoardPass l.exchange.board l.self.pass;
  hand : HasHand l.exchange.handover l.initial.self.hand l.self.hand;
  share : SameShare (actor l.initial.self.pass) (actor l.self.pass);
  files : FilesNothing (actor l.initial.self.pass) (actor l.self.pass);
}
