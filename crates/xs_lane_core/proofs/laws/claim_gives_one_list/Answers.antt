use Rattle.xs_lane_core.proofs.Gives.{gives_some, gives_one, pulls_given}
use Rattle.xs_lane_core.proofs.laws.claim_gives_one_list.Goals as goal

pub returns-clause-some : goal.returns-clause-some
returns-clause-some g c k m l sound every = gives_some k m sound l every

pub returns-clause-one : goal.returns-clause-one
returns-clause-one g c k m l vs ws sound = gives_one k m sound l vs ws

pub returns-clause-pulled : goal.returns-clause-pulled
returns-clause-pulled g c k m a l j vs sound = pulls_given k m sound a l j vs
