use Rattle.xs_enc_lanes.proofs.Claiming.{goes_none, goes_on}
use Rattle.xs_enc_lanes.proofs.activity.Activity.rest.Goals as goal

pub looking-init : goal.looking-init
looking-init c = goes_none c.args.job.now c.args.self.now c.requires.ready

pub looking-preserved : goal.looking-preserved
looking-preserved c = goes_on c.args.job.now c.args.self.now c.looking.self c.sees_whole.new.self c.looking.invariant c.sees_whole.ensures.goes
