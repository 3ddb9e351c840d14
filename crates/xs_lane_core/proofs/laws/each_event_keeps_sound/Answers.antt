use Rattle.xs_lane_core.proofs.Keeps.{take_keeps, put_keeps, home_keeps, sum_keeps, look_keeps, claim_keeps, pull_keeps, split_keeps, join_keeps}
use Rattle.xs_lane_core.proofs.laws.each_event_keeps_sound.Goals as goal

pub returns-clause-take : goal.returns-clause-take
returns-clause-take g c = take_keeps

pub returns-clause-put : goal.returns-clause-put
returns-clause-put g c = put_keeps

pub returns-clause-home : goal.returns-clause-home
returns-clause-home g c = home_keeps

pub returns-clause-look : goal.returns-clause-look
returns-clause-look g c = look_keeps

pub returns-clause-claim : goal.returns-clause-claim
returns-clause-claim g c = claim_keeps

pub returns-clause-pull : goal.returns-clause-pull
returns-clause-pull g c = pull_keeps

pub returns-clause-split : goal.returns-clause-split
returns-clause-split g c = split_keeps

pub returns-clause-join : goal.returns-clause-join
returns-clause-join g c = join_keeps

pub returns-clause-sum : goal.returns-clause-sum
returns-clause-sum g c = sum_keeps
