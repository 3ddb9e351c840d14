use Rattle.xs_enc_lanes.proofs.Teams.{forked_none}
use Rattle.xs_enc_lanes.proofs.activity.Team.new.Goals as goal

pub returns : goal.returns
returns c = λ components. forked_none c.args.lanes.now components c.args.pass c.new.result.items c.requires.pass c.requires.first c.new.ensures.items
