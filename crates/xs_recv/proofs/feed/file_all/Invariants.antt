use Rattle.std.proofs.Common.{◌≡◌, All}
use Rattle.xs_lanes.specs.Knowing.{SameShare}
use Rattle.xs_stored.specs.Stored.{IsFiled}
use Rattle.xs_board.specs.Passes.{IsBoardPass, actor, knows}
use Rattle.xs_recv.specs.Filing.{FilesOf}
use Rattle.xs_recv.proofs.feed.file_all.Given as goal

abbrev pub invariant-feeding : goal.invariant-feeding
invariant-feeding l = record {
  pass : IsBoardPass l.board l.pass;
  share : SameShare (actor l.initial.pass) (actor l.pass);
  knows : knows l.pass ≡ knows l.initial.pass;
  got : (actor l.pass).got ≡ (actor l.initial.pass).got;
  files : FilesOf l.yielded (actor l.initial.pass) (actor l.pass);
  each : All (IsFiled (actor l.pass)) l.yielded;
}
