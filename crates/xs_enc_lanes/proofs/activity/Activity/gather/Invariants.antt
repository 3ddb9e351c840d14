use Rattle.std.proofs.Common.{length}
use Rattle.xs_enc_lanes.specs.Working.{AreJoined, MayJoin}
use Rattle.xs_enc_lanes.proofs.activity.Activity.gather.Given as goal

abbrev pub invariant-gathering : goal.invariant-gathering
invariant-gathering l = record {
  join : MayJoin l.job.lanes.now (length l.fn.others.items) l.self.pass l.others.items;
  joined : AreJoined l.job l.self l.others.items;
}

abbrev pub decreases-gathering : goal.decreases-gathering
decreases-gathering l = length l.others.items
