use Rattle.std.proofs.Common.{◌≡◌, ◌<◌, ℕ}
use Rattle.xs_lanes.specs.Claiming.{got_in}
use Rattle.xs_capture.specs.Selection.{Held}
use Rattle.xs_handover.specs.Answers.{HandsNothing}
use Rattle.xs_handover.specs.Blocks.{blocks}
use Rattle.xs_handover.specs.Passes.{actor}
use Rattle.xs_recv.specs.Handed.{AreStripesBy, HasMade}
use Rattle.xs_recv.specs.Finishing.{IsFinishing}
use Rattle.xs_recv.proofs.finishing.Finishing.make_all.Given as goal

abbrev pub invariant-making : goal.invariant-making
invariant-making l = record {
  pass : IsFinishing l.self;
  same : l.self.handover ≡ l.initial.self.handover;
  hands : HandsNothing (actor l.initial.self.stripes.hand) (actor l.self.stripes.hand);
  got : (k : ℕ) → k < l.slice → 0 < got_in blocks k (actor l.self.stripes.hand);
  made : (held : Held) → AreStripesBy held l.header (actor l.initial.self.stripes.hand) l.initial.self.stripes.made.items
      → AreStripesBy held l.header (actor l.self.stripes.hand) l.self.stripes.made.items × ((k : ℕ) → k < l.slice → HasMade l.self.stripes.made.items k);
}
