use Rattle.std.proofs.Common.{◌≡◌, ◌≤◌, ℕ, None, length, get_or}
use Rattle.xs_params.specs.Geometry.{slice_count}
use Rattle.xs_stored.specs.Stored.{held_in}
use Rattle.xs_handover.specs.Passes.{actor, stripe_count}
use Rattle.xs_recv.specs.Handed.{AreStripesBy}
use Rattle.xs_recv.specs.Reading.{AreHandedUpTo}
use Rattle.xs_recv.specs.Finishing.{IsFinishing}
use Rattle.xs_recv.proofs.Handed.{IsLater}
use Rattle.xs_recv.proofs.finishing.Finishing.hand_all.Given as goal

abbrev pub invariant-slices : goal.invariant-slices
invariant-slices l = record {
  count : length l.list.items ≡ length l.fn.places.list.items;
  left : (k : ℕ) → l.slice ≤ k → get_or l.list.items k None ≡ get_or l.fn.places.list.items k None;
  pass : IsFinishing l.self;
  room : slice_count l.header ≤ stripe_count l.self.handover;
  later : IsLater (actor l.initial.self.stripes.hand) (actor l.self.stripes.hand);
  stripes : AreStripesBy (held_in l.board.actor.stored) l.header (actor l.self.stripes.hand) l.self.stripes.made.items;
  handed : AreHandedUpTo (held_in l.board.actor.stored) l.header l.size l.slice (actor l.self.stripes.hand) l.length;
}
