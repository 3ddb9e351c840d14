use Rattle.xs_enc_lanes.proofs.Claiming.{goes_on, sweeps_after}
use Rattle.xs_enc_lanes.proofs.activity.Activity.try_slice.Goals as goal

pub returns-then-sees_whole : goal.returns-then-sees_whole
returns-then-sees_whole c = record {
  goes = goes_on c.args.job.now c.args.self.now c.sees_whole.new.self c.claim_whole.new.self c.sees_whole.ensures.goes c.claim_whole.ensures.goes;
  room = c.claim_whole.ensures.room;
  swept = sweeps_after c.args.job.now c.args.slice c.args.self.now c.sees_whole.new.self c.claim_whole.new.self c.sees_whole.ensures.goes c.claim_whole.ensures.swept;
}
