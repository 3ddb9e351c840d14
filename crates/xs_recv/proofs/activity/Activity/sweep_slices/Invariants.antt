use Rattle.xs_lanes.specs.Knowing.{SameShare}
use Rattle.xs_board.specs.Passes.{IsBoardPass, actor}
use Rattle.xs_recv.specs.Activities.{HasHand}
use Rattle.xs_board.specs.Answers.{FilesNothing, GetsMore}
use Rattle.xs_recv.specs.Sweeping.{GetsSlices, StarvesNot}
use Rattle.xs_recv.proofs.activity.Activity.sweep_slices.Given as goal

abbrev pub invariant-sweeping : goal.invariant-sweeping
invariant-sweeping l = record {
  pass : IsBoardPass l.exchange.board l.self.pass;
  hand : HasHand l.exchange.handover l.initial.self.hand l.self.hand;
  share : SameShare (actor l.initial.self.pass) (actor l.self.pass);
  files : FilesNothing (actor l.initial.self.pass) (actor l.self.pass);
  grows : GetsMore (actor l.initial.self.pass) (actor l.self.pass);
  starved : StarvesNot l.initial.self l.self;
  all : GetsSlices l.slice l.initial.self l.self;
}
