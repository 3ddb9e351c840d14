use Rattle.xs_enc_lanes.proofs.Claiming.{goes_none, goes_on, sweeps_more, sweeps_none}
use Rattle.xs_enc_lanes.proofs.activity.Activity.sweep.Goals as goal

pub sweeping-init : goal.sweeping-init
sweeping-init c = record { goes = goes_none c.args.job.now c.args.self.now c.requires.ready; room = c.in-Ok.ensures; all = sweeps_none c.args.self.now c.args.self.now }

pub sweeping-preserved : goal.sweeping-preserved
sweeping-preserved c = let i = c.sweeping.invariant in record {
  goes = goes_on c.args.job.now c.args.self.now c.sweeping.self c.try_slice.new.self i.goes c.try_slice.ensures.goes;
  room = c.try_slice.ensures.room;
  all = sweeps_more c.args.job.now c.sweeping.slice c.args.self.now c.sweeping.self c.try_slice.new.self i.all i.goes c.try_slice.ensures.goes c.try_slice.ensures.swept;
}
