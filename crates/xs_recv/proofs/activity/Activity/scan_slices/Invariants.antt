use Rattle.std.proofs.Common.{◌≡◌}
use Rattle.xs_lanes.specs.Knowing.{SameShare}
use Rattle.xs_board.specs.Passes.{IsBoardPass, actor, knows}
use Rattle.xs_recv.specs.Activities.{HasHand}
use Rattle.xs_board.specs.Answers.{FilesNothing}
use Rattle.xs_recv.proofs.activity.Activity.scan_slices.Given as goal

abbrev pub invariant-scanning : goal.invariant-scanning
invariant-scanning g l = record {
  pass : IsBoardPass l.exchange.board l.self.pass;
  hand : HasHand l.exchange.handover l.initial.self.hand l.self.hand;
  share : SameShare (actor l.initial.self.pass) (actor l.self.pass);
  files : FilesNothing (actor l.initial.self.pass) (actor l.self.pass);
  knows : knows l.self.pass ≡ knows l.initial.self.pass;
}
