use Rattle.std.proofs.Common.{ℕ}
use Rattle.xs_lanes.specs.Passes.{IsPassOf}
use Rattle.xs_enc_lanes.specs.Working.{AreForked, HasRole}
use Rattle.xs_enc_lanes.proofs.activity.Team.add_coders.Given as goal

abbrev pub invariant-adding : goal.invariant-adding
invariant-adding l = record {
  pass : IsPassOf l.lanes l.self.pass;
  forked : (components : ℕ) → AreForked l.lanes components l.initial.self.pass l.initial.self.others.items → AreForked l.lanes components l.self.pass l.self.others.items;
  others : (c : ℕ) → HasRole l.initial.self.others.items c → HasRole l.self.others.items c;
}
