use Rattle.std.proofs.Common.{ℕ, ◌<◌}
use Rattle.xs_enc_lanes.specs.Working.{AreForked, HasRole}
use Rattle.xs_enc_lanes.proofs.activity.Team.add_components.Given as goal

abbrev pub invariant-adding : goal.invariant-adding
invariant-adding l = record {
  forked : AreForked l.lanes l.components l.self.pass l.self.others.items;
  roles : (c : ℕ) → c < l.component → HasRole l.self.others.items c;
}
